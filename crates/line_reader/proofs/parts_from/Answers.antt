use native.Mathlib.Omega.{arith}
use Rattle.line_reader.proofs.SeenLaws.{followed_more, followed_last, followed_none, followed_over}
use Rattle.line_reader.proofs.TextLaws.{text_on, text_inside}
use Rattle.line_reader.proofs.parts_from.Goals as goal

pub returns-then-l-q-eq-END : goal.returns-then-l-q-eq-END
returns-then-l-q-eq-END c = followed_last c.loop-q.invariant.1 (omega arith) c.if-l-q-eq-END.true

pub returns-in_err-mark : goal.returns-in_err-mark
returns-in_err-mark c = rw c.from_residual.ensures (followed_none c.loop-q.invariant.1 c.if-l-q-eq-END.false c.in_err-mark.ensures)

pub loop-q-smaller : goal.loop-q-smaller
loop-q-smaller c = let t = c.in_ok-mark.ensures.text in omega (arith, text_on t, text_inside t)

pub loop-q-preserved : goal.loop-q-preserved
loop-q-preserved c =
    let i = c.loop-q.invariant in
    let p = c.in_ok-mark.ensures in
    (omega (arith, i.0, text_on p.text), rw c.room_after-room.ensures (followed_more i.1 p))

pub returns : goal.returns
returns c = followed_over c.loop-q.invariant.1 (omega arith)
