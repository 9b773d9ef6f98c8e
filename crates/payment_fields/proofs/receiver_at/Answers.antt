-- payment_fields::receiver_at meets its contract: C2 to C7b are told in the steps of the code (`receiver_steps`), and the check goes along them.
use Rattle.std.proofs.Common.{rules}
use Rattle.payment_fields.proofs.Steps.{receiver_steps}
use Rattle.payment_fields.proofs.receiver_at.Goals as goal

pub returns-in_default : goal.returns-in_default
returns-in_default c = rw receiver_steps (grind rules)

pub returns-in_default-c3 : goal.returns-in_default-c3
returns-in_default-c3 c = rw receiver_steps (grind rules)

pub returns-in_default-c4 : goal.returns-in_default-c4
returns-in_default-c4 c = rw receiver_steps (grind rules)

pub returns-in_default-c5 : goal.returns-in_default-c5
returns-in_default-c5 c = rw receiver_steps (grind rules)

pub returns-in_default-c6 : goal.returns-in_default-c6
returns-in_default-c6 c = rw receiver_steps (grind rules)

pub returns-in_default-c7a : goal.returns-in_default-c7a
returns-in_default-c7a c = rw receiver_steps (grind rules)

pub returns-in_default-c7b : goal.returns-in_default-c7b
returns-in_default-c7b c = rw receiver_steps (grind rules)

pub returns : goal.returns
returns c = rw receiver_steps (grind rules)
