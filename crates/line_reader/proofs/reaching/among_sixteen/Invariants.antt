-- line_reader::reaching::among_sixteen meets its contract: as long as the byte was not found, it is as far behind the bytes looked at.
use Rattle.line_reader.proofs.ReachLaws.{PastUnless}
use Rattle.line_reader.proofs.reaching.among_sixteen.Given as goal

abbrev pub invariant-loop-j : goal.invariant-loop-j
invariant-loop-j l = PastUnless l.found l.z l.s l.p l.j
