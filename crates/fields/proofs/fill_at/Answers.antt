-- fields::fill_at meets its contract: whole, then every byte.
use Rattle.std.proofs.Common.{take, drop, replicate, sym, ◌∙◌}
use native.Mathlib.Nat.{add-sub_cancel_left}
use lib.ListN.{length-replicate}
use borrow.Author.Tests.{not-false, not-true}
use Rattle.form.specs.Kind.{fixed}
use Rattle.form.specs.Reader.{not_fixed}
use Rattle.verdict.specs.Verdicts.{number_of}
use Rattle.fields.specs.Answers.{passings}
use Rattle.fields.proofs.LeafLaws.{field_length, judge_fill, leaf_right, leaf_short, leaf_wrong}
use Rattle.fields.proofs.fill_at.Goals as goal

pub returns-then-not-whole : goal.returns-then-not-whole
returns-then-not-whole c =
    let a = c.args in
    rw c.refuse.ensures (leaf_short (fixed (replicate a.w a.b)) passings a.s.now a.p a.w _ (length-replicate a.w a.b) (sym c.whole.ensures ∙ not-true _ c.if-not-whole.true-raw))

pub returns-then-not-all_are : goal.returns-then-not-all_are
unfolding number_of
returns-then-not-all_are c =
    let a = c.args in
    let whole = sym c.whole.ensures ∙ not-false _ c.if-not-whole.false-raw in
    let judged = judge_fill a.b a.w (take a.w (drop a.p a.s.now)) (field_length a.s.now a.p a.w whole) in
    let all = rw add-sub_cancel_left at c.all_are.ensures in
    rw c.refuse-then-not-all_are.ensures
    (leaf_wrong (fixed (replicate a.w a.b)) passings a.s.now a.p a.w _ (length-replicate a.w a.b) whole not_fixed (rw (judged, ← all, not-true c.all_are.result c.if-not-all_are.true-raw)))

pub returns : goal.returns
returns c =
    let a = c.args in
    let whole = sym c.whole.ensures ∙ not-false _ c.if-not-whole.false-raw in
    let judged = judge_fill a.b a.w (take a.w (drop a.p a.s.now)) (field_length a.s.now a.p a.w whole) in
    let all = rw add-sub_cancel_left at c.all_are.ensures in
    leaf_right (fixed (replicate a.w a.b)) passings a.s.now a.p a.w _ (length-replicate a.w a.b) whole tt (rw (judged, ← all, not-false c.all_are.result c.if-not-all_are.false-raw))
