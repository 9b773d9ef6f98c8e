use native.Mathlib.Omega.{arith}
use Rattle.line_reader.proofs.ReachLaws.{past_more}
use Rattle.line_reader.proofs.reaching.among_sixteen.Goals as goal

pub loop-j-preserved : goal.loop-j-preserved
loop-j-preserved c =
    let a = c.args in
    past_more c.loop-j.found a.z a.s.now a.p c.loop-j.j (omega arith) c.loop-j.invariant
