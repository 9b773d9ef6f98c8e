-- payment_fields::part_count_at meets its contract: C17a to C18 are told in the steps of the code (`part_count_steps`), and the check goes along them.
use Rattle.std.proofs.Common.{rules}
use Rattle.payment_fields.proofs.Steps.{part_count_steps}
use Rattle.payment_fields.proofs.part_count_at.Goals as goal

pub returns-in_default : goal.returns-in_default
returns-in_default c = rw part_count_steps (grind rules)

pub returns-in_default-c17b : goal.returns-in_default-c17b
returns-in_default-c17b c = rw part_count_steps (grind rules)

pub returns : goal.returns
returns c = rw part_count_steps (grind rules)
