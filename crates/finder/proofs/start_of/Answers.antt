use native.Mathlib.Omega.{arith}
use Rattle.layout.proofs.StepLaws.{pass_start, pass_inside, pass_on}
use Rattle.finder.proofs.LoopLaws.{ahead_first, ahead_on, start_found}
use Rattle.finder.proofs.start_of.Goals as goal

pub loop-row-init : goal.loop-row-init
loop-row-init c = pass_start _ _ (ahead_first _)

pub overflow_add-p : goal.overflow_add-p
overflow_add-p c = omega (arith, pass_inside c.loop-row.invariant (omega arith) c.count_at.ensures c.bytes_of-p.ensures)

pub loop-row-preserved : goal.loop-row-preserved
loop-row-preserved c = pass_on c.loop-row.invariant (omega arith) c.count_at.ensures c.bytes_of-p.ensures (ahead_on _ _ _ _)

pub returns : goal.returns
returns c = start_found c.loop-row.invariant (omega arith) c.loop-row-test.false c.requires
