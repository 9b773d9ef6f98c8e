-- line_reader::text_at meets its contract: a tab, and signs up to one that is no blank.
use Prim.Native.Nat.{◌+◌}
use native.Mathlib.Omega.{arith}
use Rattle.line_reader.proofs.SignsLaws.{signs_end_inside}
use Rattle.line_reader.proofs.SeenLaws.{text_seen, no_text}
use Rattle.line_reader.proofs.text_at.Goals as goal

pub returns-then-q-l : goal.returns-then-q-l
returns-then-q-l c = λ e t. omega (arith, t.inside)

pub returns-then-l-q-ne-TAB : goal.returns-then-l-q-ne-TAB
returns-then-l-q-ne-TAB c = λ e t. c.if-l-q-ne-TAB.true t.tab

pub bounds-l-e : goal.bounds-l-e
bounds-l-e c =
    let a = c.args in
    omega (arith, c.signs_end-e.ensures, signs_end_inside a.l.now (a.q + 1) (omega arith))

pub returns-then-l-e-eq32 : goal.returns-then-l-e-eq32
returns-then-l-e-eq32 c =
    let a = c.args in
    no_text a.l.now a.q c.signs_end-e.result (omega arith) c.signs_end-e.ensures c.if-l-e-eq32.true

pub returns : goal.returns
returns c =
    let a = c.args in
    text_seen a.l.now a.q c.signs_end-e.result (omega arith) c.signs_end-e.ensures c.if-l-q-ne-TAB.false c.if-l-e-eq32.false
