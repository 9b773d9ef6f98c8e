use native.Mathlib.Omega.{arith}
use mathlib.Core.Path.{refl}
use Rattle.output.proofs.WritingLaws.{writing_more}
use Rattle.output.proofs.copy.Goals as goal

pub loop-i-preserved : goal.loop-i-preserved
loop-i-preserved c = writing_more _ _ c.loop-i.invariant (omega arith) refl refl
