-- lister::listing_length meets its contract: the line of A, and then line by line, from one payment to the next.
use Rattle.lister.proofs.LoopLaws.{Measuring}
use Rattle.lister.proofs.listing_length.Given as goal

abbrev pub invariant-loop-row : goal.invariant-loop-row
invariant-loop-row l = Measuring l.s l.n l.total l.p l._row
