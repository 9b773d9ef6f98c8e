use native.Mathlib.Omega.{arith}
use mathlib.Core.Path.{◌≡◌}
use lib.ListN.{length}
use Rattle.line_reader.proofs.ReachLaws.{reach_here, reach_end}
use Rattle.listing.specs.Lines.{tab}
use Rattle.composer.proofs.PutLaws.{copy_room, copy_more, copy_end}
use Rattle.composer.proofs.record.put_field.Goals as goal

pub bounds-out-p : goal.bounds-out-p
bounds-out-p c = copy_room c.loop-i.invariant (omega arith) c.if-b-eq-TAB.false

pub loop-i-preserved : goal.loop-i-preserved
loop-i-preserved c = copy_more c.loop-i.invariant (omega arith) c.if-b-eq-TAB.false

pub returns-then-b-eq-TAB : goal.returns-then-b-eq-TAB
returns-then-b-eq-TAB c =
    let i = c.loop-i.i in
    let said = copy_end c.loop-i.invariant (reach_here tab c.args.x.now i (omega arith) c.if-b-eq-TAB.true) in
    record { place = said.0; out = said.1 }

pub returns : goal.returns
returns c =
    let end : c.loop-i.i ≡ length c.args.x.now = omega (arith, c.loop-i.invariant.inside) in
    let said = rw end at (copy_end c.loop-i.invariant (reach_end tab c.args.x.now c.loop-i.i (omega arith))) in
    record { place = said.0; out = said.1 }
