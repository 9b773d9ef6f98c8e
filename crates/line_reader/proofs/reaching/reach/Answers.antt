use native.Mathlib.Omega.{arith}
use Rattle.line_reader.proofs.reaching.reach.Goals as goal

pub loop-i-preserved : goal.loop-i-preserved
loop-i-preserved c = omega (arith, c.among_sixteen.ensures c.if-among_sixteen.false)
