use native.Mathlib.Omega.{arith}
use Rattle.composer.proofs.FormLaws.{stand_ends, place_first, place_here, place_more}
use Rattle.composer.proofs.line.place_of.Goals as goal

pub loop-i-init : goal.loop-i-init
loop-i-init c = let a = c.args in place_first a.head a.n a.x.now a.p c.requires

pub returns-then-p-c : goal.returns-then-p-c
returns-then-p-c c = place_here c.loop-i.invariant (omega arith) c.cell_at-c.result c.cell_at-c.ensures c.if-p-c.true

pub overflow_add-q : goal.overflow_add-q
overflow_add-q c =
    omega (arith, stand_ends c.loop-i.invariant.stand (omega arith) c.field_end-q.result c.field_end-q.ensures, c.well_formed)

pub loop-i-preserved : goal.loop-i-preserved
loop-i-preserved c =
    place_more c.loop-i.invariant (omega arith) c.cell_at-c.result c.cell_at-c.ensures c.if-p-c.false c.field_end-q.result c.field_end-q.ensures
