-- composer::line::formed meets its contract: the number of fields, the letter, and then field by field.
-- The loop keeps `Forming`: field i stands at q, and the line has its form exactly where the fields from i on have theirs. In each turn field i
-- either has not its form, and so the line has not (`form_not`), or it is passed (`form_more`); behind the last all have theirs (`form_all`). Ahead
-- of the loop the line is refused for its count or its letter (`other_count`, `other_letter`). The slice lies in the line by `stand_ends`, and
-- what the callees require is found by the check.
use Rattle.composer.proofs.FormLaws.{Forming}
use Rattle.composer.proofs.line.formed.Given as goal

abbrev pub invariant-loop-i : goal.invariant-loop-i
invariant-loop-i l = Forming l.head l.n l.x l.i l.q
