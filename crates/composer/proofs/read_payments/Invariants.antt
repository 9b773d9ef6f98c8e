-- composer::read_payments meets its contract: line by line, and then the end.
-- The loop keeps `Reading`: what is to be told of all lines is what is owed of the lines from p on. Each turn
-- takes apart what `line_at` told: a payment takes the loop on (`reading_more`), a refusal ends it (`reading_refused`), and a line that has no
-- end leads to the returns behind the loop (`reading_cut`, `reading_none`, `reading_ends`). The loop ends, and neither count nor size wraps,
-- since at most 9,999,999 payments are told, none longer than one with the most parts (`one_more`, `record_small`).
use Prim.Native.Nat.{◌-◌}
use Rattle.document.specs.Rules.{most_payments}
use Rattle.composer.proofs.ReadingLaws.{Reading}
use Rattle.composer.proofs.read_payments.Given as goal

abbrev pub invariant-loop-line : goal.invariant-loop-line
invariant-loop-line l = Reading l.l l.kind l.start l.count l.sums l.size l.p

abbrev pub decreases-loop-line : goal.decreases-loop-line
decreases-loop-line l = most_payments - l.count
