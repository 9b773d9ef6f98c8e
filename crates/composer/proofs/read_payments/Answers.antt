use native.Mathlib.Omega.{arith}
use mathlib.Core.Path.{refl}
use Rattle.std.proofs.lemmas.Result.{err_from_is_err_and}
use Rattle.composer.proofs.ReadingLaws.{reading_first, heard_is, heard_refused, one_more, record_small, reading_more, reading_refused, reading_cut, reading_none, reading_ends}
use Rattle.composer.proofs.read_payments.Goals as goal

pub loop-line-init : goal.loop-line-init
loop-line-init c = reading_first _ _ _ c.requires

pub returns-in_err-line : goal.returns-in_err-line
returns-in_err-line c =
    let p = err_from_is_err_and c.from_residual.result c.from_residual.ensures.1 in
    let x = c.in_err-line.ensures in
    let d = heard_refused _ _ _ _ _ x.1.told refl in
    rw (p.1, p.2) (reading_refused c.loop-line.invariant x.0 x.1.ends x.1.more d.1 d.2)

pub overflow_add-size : goal.overflow_add-size
overflow_add-size c =
    let i = c.loop-line.invariant in
    let x = rw c.in-Some.is at c.in_ok-line.ensures in
    let h = heard_is _ _ _ _ _ x.1.told refl in
    let o = one_more i x.0 x.1.ends x.1.more h in
    let r = record_small i x.0 x.1.ends x.1.more h in
    let s = i.small in
    omega arith

pub loop-line-smaller : goal.loop-line-smaller
loop-line-smaller c =
    let x = rw c.in-Some.is at c.in_ok-line.ensures in
    let h = one_more c.loop-line.invariant x.0 x.1.ends x.1.more (heard_is _ _ _ _ _ x.1.told refl) in
    omega arith

pub loop-line-preserved : goal.loop-line-preserved
loop-line-preserved c =
    let x = rw c.in-Some.is at c.in_ok-line.ensures in
    rw x.2 (reading_more c.loop-line.invariant x.0 x.1.ends x.1.more (heard_is _ _ _ _ _ x.1.told refl))

pub returns-then-p-l : goal.returns-then-p-l
returns-then-p-l c =
    let x = rw c.in_default.is at c.in_ok-line.ensures in
    reading_cut c.loop-line.invariant _ refl x c.if-p-l.true c.refuse.ensures

pub returns-then-count-eq0 : goal.returns-then-count-eq0
returns-then-count-eq0 c =
    let x = rw c.in_default.is at c.in_ok-line.ensures in
    reading_none c.loop-line.invariant _ refl x c.if-p-l.false c.if-count-eq0.true c.refuse-then-count-eq0.ensures

pub returns : goal.returns
returns c =
    let x = rw c.in_default.is at c.in_ok-line.ensures in
    reading_ends c.loop-line.invariant _ refl x c.if-p-l.false c.if-count-eq0.false
