-- composer::line::place_of meets its contract: the field is none of those that the walk has passed.
use Rattle.composer.proofs.FormLaws.{Seeking}
use Rattle.composer.proofs.line.place_of.Given as goal

abbrev pub invariant-loop-i : goal.invariant-loop-i
invariant-loop-i l = Seeking l.head l.n l.x l.p l.i l.q
