-- checker::file_at meets its contract: a walk through A, then turn by turn through the payments, then E.
-- The loop keeps `Turn`: so many payments were read, which come to these sums, and the answer owed for the file is what the rest from `at` on
-- gives. Each way through a turn is one law of `TurnLaws`: the first field refuses, E comes, a payment refuses, a payment was read. A payment
-- comes only where the count is below the most (`one_more`), so that the loop ends and the count does not wrap; what the calls require and the
-- cases of each answer are found by the check.
use Prim.Native.Nat.{◌-◌}
use Rattle.document.specs.Rules.{most_payments}
use Rattle.checker.proofs.TurnLaws.{Turn}
use Rattle.checker.proofs.file_at.Given as goal

abbrev pub invariant-loop-l : goal.invariant-loop-l
invariant-loop-l l = Turn l.s l.p l.kind l.count l.sums l.at

abbrev pub decreases-loop-l : goal.decreases-loop-l
decreases-loop-l l = most_payments - l.count
