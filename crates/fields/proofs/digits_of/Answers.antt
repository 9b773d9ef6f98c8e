use Rattle.std.proofs.Common.{sym, arith}
use Rattle.fields.proofs.DigitLaws.{spelt_none, spelt_more, spelt_not, spelt_all, spelt_room}
use Rattle.fields.proofs.digits_of.Goals as goal

pub loop-b-init : goal.loop-b-init
loop-b-init c = spelt_none _

pub returns-then-d-gt9 : goal.returns-then-d-gt9
returns-then-d-gt9 c =
    let l = c.loop-b in
    let b = c.type_inv.f l.b-index in
    sym (spelt_not c.args.f.now l.b-index l.v _ l.invariant (omega arith) (omega arith) (omega (arith, b)) c.if-d-gt9.true)

pub overflow_mul-v : goal.overflow_mul-v
overflow_mul-v c = let l = c.loop-b in omega (arith, spelt_room _ l.b-index l.v l.invariant (omega arith))

pub overflow_add-v : goal.overflow_add-v
overflow_add-v c = let l = c.loop-b in omega (arith, spelt_room _ l.b-index l.v l.invariant (omega arith))

pub loop-b-preserved : goal.loop-b-preserved
loop-b-preserved c =
    let l = c.loop-b in
    let b = c.type_inv.f l.b-index in
    rw c.from.ensures (spelt_more _ l.b-index l.v _ l.invariant (omega arith) (omega arith) (omega (arith, b)) c.if-d-gt9.false)

pub returns : goal.returns
returns c = let l = c.loop-b in sym (spelt_all c.args.f.now l.b-index l.v l.invariant (omega arith))
