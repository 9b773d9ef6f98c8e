-- view::text_of meets its contract: the bytes of the view that `make` gives are a stretch of the file itself, and so is the text that `hand` gives
-- out of them.
use Rattle.view.proofs.MakeAndHand.{text_law}
use Rattle.view.proofs.text_of.Goals as goal

pub returns : goal.returns
returns c = text_law _ _ _ _ _ c.make-made.ensures c.hand-handed.ensures
