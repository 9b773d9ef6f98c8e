-- lister::print_listing meets its contract: the line of A, and then line by line, from one payment to the next.
use Rattle.lister.proofs.LoopLaws.{Listing}
use Rattle.lister.proofs.print_listing.Given as goal

abbrev pub invariant-loop-row : goal.invariant-loop-row
invariant-loop-row l = Listing l.s l.n l.initial.pen l.pen l.p l._row
