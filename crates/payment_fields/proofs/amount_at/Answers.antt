-- payment_fields::amount_at meets its contract: C8 to C12 are told in the steps of the code (`amount_steps`), and the check goes along them.
use Rattle.std.proofs.Common.{rules}
use Rattle.payment_fields.proofs.Steps.{amount_steps}
use Rattle.payment_fields.proofs.amount_at.Goals as goal

pub returns-in_default : goal.returns-in_default
returns-in_default c = rw amount_steps (grind rules)

pub returns-in_default-c9 : goal.returns-in_default-c9
returns-in_default-c9 c = rw amount_steps (grind rules)

pub returns-in_default-c10 : goal.returns-in_default-c10
returns-in_default-c10 c = rw amount_steps (grind rules)

pub returns-in_default-c11 : goal.returns-in_default-c11
returns-in_default-c11 c = rw amount_steps (grind rules)

pub returns : goal.returns
returns c = rw amount_steps (grind rules)
