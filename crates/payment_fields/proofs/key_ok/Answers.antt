-- payment_fields::key_ok meets its contract: the keys of credits, or those of debits.
use mathlib.Core.List.{[], ◌∷◌}
use Rattle.payment_fields.proofs.Laws.{tried_all}
use Rattle.payment_fields.proofs.key_ok.Goals as goal

pub returns-then-kind : goal.returns-then-kind
returns-then-kind c = rw c.if-kind.true (tried_all c.args.v 51 (53 ∷ 54 ∷ 56 ∷ []))

pub returns : goal.returns
returns c = rw c.if-kind.false (tried_all c.args.v 4 (5 ∷ []))
