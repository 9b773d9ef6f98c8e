-- view::verdict_of meets its contract: the first refusal of the verdicts that `make` and `hand` give is the one that `verdict_for` names.
use Rattle.std.proofs.Common.{◌∙◌}
use Rattle.view.proofs.MakeAndHand.{verdict_law}
use Rattle.view.proofs.verdict_of.Goals as goal

pub returns : goal.returns
returns c = c.first_of.ensures ∙ verdict_law _ _ _ _ _ c.make-made.ensures c.hand-handed.ensures
