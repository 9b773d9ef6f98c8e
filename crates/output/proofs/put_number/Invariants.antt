-- output::put_number meets its contract: with room for all digits they are written from the last to the first, and none without.
use Rattle.output.proofs.DigitLaws.{Spelling}
use Rattle.output.proofs.put_number.Given as goal

abbrev pub invariant-loop-i : goal.invariant-loop-i
invariant-loop-i l = Spelling l.initial.out l.p l.v l.w l.out l.left l.i
