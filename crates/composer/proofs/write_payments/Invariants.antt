-- composer::write_payments meets its contract: one record after another.
-- The loop keeps `Putting`: the records of the payments passed stand in the output, and the lines from p on tell the others. As long as a
-- payment is still to come (`left`), its line is ended (`ends`, found from behind its numbers by `texts_end`), has the form that `write_payment`
-- asks for (`line_written`), and its record fits (`next_room`); `putting_more` is the turn. Behind the last all records stand there (`all_put`).
use Rattle.listing.specs.Composing.{compose}
use Rattle.composer.specs.Writing.{composed_payments}
use Rattle.composer.proofs.WritingLaws.{Putting}
use Rattle.composer.proofs.write_payments.Given as goal

abbrev pub invariant-loop-row : goal.invariant-loop-row
invariant-loop-row l = Putting l.l l.initial.out (composed_payments (compose l.l)) l.out l._row l.p l.at
