-- fields::maybe_number_at meets its contract: whole, then all blanks, then every digit.
use Rattle.std.proofs.Common.{◌+◌, take, drop, refl, sym, ◌∙◌}
use Rattle.std.proofs.Math.Option.{none, some}
use native.Mathlib.Nat.{add-sub_cancel_left}
use borrow.Author.Tests.{not-false, not-true}
use Rattle.std.proofs.lemmas.Result.{err_from_is_err_and}
use Rattle.form.specs.Kind.{maybe}
use Rattle.form.specs.Reader.{not_digit}
use Rattle.verdict.specs.Verdicts.{number_of}
use Rattle.fields.specs.Answers.{maybe_numbers}
use Rattle.fields.proofs.DigitLaws.{number_has, number_lacks}
use Rattle.fields.proofs.LeafLaws.{field_length, judge_maybe, leaf_right, leaf_short, leaf_wrong}
use Rattle.fields.proofs.maybe_number_at.Goals as goal

pub returns-then-not-whole : goal.returns-then-not-whole
returns-then-not-whole c =
    let a = c.args in
    let n = c.min-n.result in
    rw (← c.min-n.ensures, c.refuse.ensures) (leaf_short (maybe n) maybe_numbers a.s.now a.p n (a.p + n) refl (sym c.whole.ensures ∙ not-true _ c.if-not-whole.true-raw))

pub returns-then-all_are : goal.returns-then-all_are
returns-then-all_are c =
    let a = c.args in
    let n = c.min-n.result in
    let whole = sym c.whole.ensures ∙ not-false _ c.if-not-whole.false-raw in
    let judged = judge_maybe n (take n (drop a.p a.s.now)) (field_length a.s.now a.p n whole) in
    let blank = rw add-sub_cancel_left at c.all_are.ensures in
    rw (← c.min-n.ensures) (leaf_right (maybe n) maybe_numbers a.s.now a.p n (a.p + n) refl whole none (rw (judged, ← blank, c.if-all_are.true)))

pub returns-in_err-v : goal.returns-in_err-v
unfolding number_of
returns-in_err-v c =
    let a = c.args in
    let n = c.min-n.result in
    let p = err_from_is_err_and c.from_residual.result c.from_residual.ensures.1 in
    let whole = sym c.whole.ensures ∙ not-false _ c.if-not-whole.false-raw in
    let z = number_lacks (take n (drop a.p a.s.now)) a.p n (sym (rw add-sub_cancel_left at c.in_err-v.ensures)) in
    let judged = judge_maybe n (take n (drop a.p a.s.now)) (field_length a.s.now a.p n whole) in
    let blank = rw add-sub_cancel_left at c.all_are.ensures in
    rw (← c.min-n.ensures, p.1, p.2, z.2) (leaf_wrong (maybe n) maybe_numbers a.s.now a.p n (a.p + n) refl whole not_digit (rw (judged, ← blank, c.if-all_are.false) z.1))

pub returns : goal.returns
returns c =
    let a = c.args in
    let n = c.min-n.result in
    let whole = sym c.whole.ensures ∙ not-false _ c.if-not-whole.false-raw in
    let v = number_has (take n (drop a.p a.s.now)) a.p n (sym (rw add-sub_cancel_left at c.in_ok-v.ensures)) in
    let judged = judge_maybe n (take n (drop a.p a.s.now)) (field_length a.s.now a.p n whole) in
    let blank = rw add-sub_cancel_left at c.all_are.ensures in
    rw (← c.min-n.ensures) (leaf_right (maybe n) maybe_numbers a.s.now a.p n (a.p + n) refl whole (some c.in_ok-v.v) (rw (judged, ← blank, c.if-all_are.false) v.1))
