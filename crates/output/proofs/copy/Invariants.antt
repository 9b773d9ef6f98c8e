-- output::copy meets its contract: with room for all the bytes they are written one by one, and none without.
use Rattle.output.proofs.WritingLaws.{Writing}
use Rattle.output.proofs.copy.Given as goal

abbrev pub invariant-loop-i : goal.invariant-loop-i
invariant-loop-i l = Writing l.initial.out l.p l.t l.out l.i
