-- trailer::end_at meets its contract: what E gives is told in the steps of the code (`end_steps`), and the check goes along them.
use Rattle.std.proofs.Common.{rules}
use Rattle.trailer.proofs.Steps.{end_steps}
use Rattle.trailer.proofs.end_at.Goals as goal

pub returns-in_default : goal.returns-in_default
returns-in_default c = rw end_steps (grind rules)

pub returns-in_default-e3 : goal.returns-in_default-e3
returns-in_default-e3 c = rw end_steps (grind rules)

pub returns-in_default-e4 : goal.returns-in_default-e4
returns-in_default-e4 c = rw end_steps (grind rules)

pub returns-in_default-e5 : goal.returns-in_default-e5
returns-in_default-e5 c = rw end_steps (grind rules)

pub returns-in_default-e6 : goal.returns-in_default-e6
returns-in_default-e6 c = rw end_steps (grind rules)

pub returns-in_default-e7 : goal.returns-in_default-e7
returns-in_default-e7 c = rw end_steps (grind rules)

pub returns-in_default-e8 : goal.returns-in_default-e8
returns-in_default-e8 c = rw end_steps (grind rules)

pub returns : goal.returns
returns c = rw end_steps (grind rules)
