-- composer::line_at meets its contract: the walk along the line tells of it, or the reading by its record does.
-- There is no loop. What the walk has seen is told as by the record (`seen_told`). Where it says no, the line's end is looked for: none is the
-- answer itself, and up to one the line is handed to `payment_line`, whose answer is given on with that end. That the slice lies in the listing is
-- by `line_inside`; the rest is found by the check.
use Rattle.composer.proofs.StepLaws.{line_inside, seen_told}
use Rattle.composer.proofs.line_at.Goals as goal

pub returns-in-Some : goal.returns-in-Some
returns-in-Some c = seen_told _ _ _ _ _ _ c.requires c.in-Some.ensures

pub slice_bounds-payment_line-end : goal.slice_bounds-payment_line-end
slice_bounds-payment_line-end c = (line_inside _ _ _ c.requires c.reach-e.ensures).1
