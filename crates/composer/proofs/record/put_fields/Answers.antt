use native.Mathlib.Omega.{arith}
use Rattle.composer.proofs.PutLaws.{put_inside, put_room, one_more, put_more, put_all}
use Rattle.composer.proofs.record.put_fields.Goals as goal

pub put_field-q-requires : goal.put_field-q-requires
put_field-q-requires c =
    let h = c.loop-i.invariant.0 (omega arith) in
    (h.inside, put_room h _ c.cell_at-c.ensures)

pub overflow_add-q : goal.overflow_add-q
overflow_add-q c =
    omega (arith, put_inside (c.loop-i.invariant.0 (omega arith)) _ c.cell_at-c.ensures _ c.put_field-q.ensures.place, c.well_formed)

pub loop-i-preserved : goal.loop-i-preserved
loop-i-preserved c =
    let h = c.loop-i.invariant.0 (omega arith) in (
      put_more h _ c.cell_at-c.ensures _ c.put_field-q.ensures.place c.put_field-q.ensures.out,
      one_more h _ c.cell_at-c.ensures _ c.put_field-q.ensures.place c.put_field-q.ensures.out,
    )

pub returns : goal.returns
returns c = let a = c.args in put_all a.head a.k a.n a.x.now c.loop-i.i c.requires.line (omega arith) c.loop-i.invariant.1
