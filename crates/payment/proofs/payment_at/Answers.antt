-- payment::payment_at meets its contract: a payment is told in the steps of the code (`payment_steps`), and the check goes along them.
use Rattle.std.proofs.Common.{rules}
use Rattle.payment.proofs.Steps.{payment_steps}
use Rattle.payment.proofs.payment_at.Goals as goal

pub returns-in_default : goal.returns-in_default
returns-in_default c = rw payment_steps (grind rules)

pub returns-in_default-amount : goal.returns-in_default-amount
returns-in_default-amount c = rw payment_steps (grind rules)

pub returns-in_default-names : goal.returns-in_default-names
returns-in_default-names c = rw payment_steps (grind rules)

pub returns-in_default-count : goal.returns-in_default-count
returns-in_default-count c = rw payment_steps (grind rules)

pub returns-in_default-parts : goal.returns-in_default-parts
returns-in_default-parts c = rw payment_steps (grind rules)

pub returns : goal.returns
returns c = rw payment_steps (grind rules)
