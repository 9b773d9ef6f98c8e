use native.Mathlib.Omega.{arith}
use Rattle.layout.proofs.StepLaws.{pass_start, pass_inside, pass_on}
use Rattle.finder.proofs.LoopLaws.{sought_first, sought_on, begun_here, none_begun}
use Rattle.finder.proofs.begins.Goals as goal

pub loop-row-init : goal.loop-row-init
loop-row-init c = pass_start _ _ (sought_first _ _)

pub returns-then-p-start : goal.returns-then-p-start
returns-then-p-start c = begun_here c.loop-row.invariant (omega arith) c.if-p-start.true

pub overflow_add-p : goal.overflow_add-p
overflow_add-p c = omega (arith, pass_inside c.loop-row.invariant (omega arith) c.count_at.ensures c.bytes_of-p.ensures)

pub loop-row-preserved : goal.loop-row-preserved
loop-row-preserved c =
    pass_on c.loop-row.invariant (omega arith) c.count_at.ensures c.bytes_of-p.ensures (sought_on _ c.args.start _ c.loop-row._row c.loop-row.p c.if-p-start.false)

pub returns : goal.returns
returns c = none_begun c.args.start c.loop-row.invariant (omega arith)
