-- fields::number_at meets its contract: whole, then every digit.
use Rattle.std.proofs.Common.{◌+◌, take, drop, refl, sym, ◌∙◌}
use native.Mathlib.Nat.{add-sub_cancel_left}
use borrow.Author.Tests.{not-false, not-true}
use Rattle.std.proofs.lemmas.Result.{err_from_is_err_and}
use Rattle.form.specs.Kind.{digits}
use Rattle.form.specs.Reader.{not_digit}
use Rattle.verdict.specs.Verdicts.{number_of}
use Rattle.fields.specs.Answers.{numbers}
use Rattle.fields.proofs.DigitLaws.{number_has, number_lacks}
use Rattle.fields.proofs.LeafLaws.{leaf_right, leaf_short, leaf_wrong}
use Rattle.fields.proofs.number_at.Goals as goal

pub returns-then-not-whole : goal.returns-then-not-whole
returns-then-not-whole c =
    let a = c.args in
    let n = c.min-n.result in
    rw (← c.min-n.ensures, c.refuse.ensures) (leaf_short (digits n) numbers a.s.now a.p n (a.p + n) refl (sym c.whole.ensures ∙ not-true _ c.if-not-whole.true-raw))

pub returns-in_err-v : goal.returns-in_err-v
unfolding number_of
returns-in_err-v c =
    let a = c.args in
    let n = c.min-n.result in
    let p = err_from_is_err_and c.from_residual.result c.from_residual.ensures.1 in
    let whole = sym c.whole.ensures ∙ not-false _ c.if-not-whole.false-raw in
    let z = number_lacks (take n (drop a.p a.s.now)) a.p n (sym (rw add-sub_cancel_left at c.in_err-v.ensures)) in
    rw (← c.min-n.ensures, p.1, p.2, z.2) (leaf_wrong (digits n) numbers a.s.now a.p n (a.p + n) refl whole not_digit z.0)

pub returns : goal.returns
returns c =
    let a = c.args in
    let n = c.min-n.result in
    let whole = sym c.whole.ensures ∙ not-false _ c.if-not-whole.false-raw in
    let v = number_has (take n (drop a.p a.s.now)) a.p n (sym (rw add-sub_cancel_left at c.in_ok-v.ensures)) in
    rw (← c.min-n.ensures) (leaf_right (digits n) numbers a.s.now a.p n (a.p + n) refl whole c.in_ok-v.v v.0)
