-- fields::fixed_at meets its contract: whole, then the same bytes.
use Rattle.std.proofs.Common.{length, refl, sym, ◌∙◌}
use native.Mathlib.Nat.{add-sub_cancel_left}
use borrow.Author.Tests.{not-false, not-true}
use Rattle.form.specs.Kind.{fixed}
use Rattle.form.specs.Reader.{judge, not_fixed}
use Rattle.verdict.specs.Verdicts.{number_of}
use Rattle.fields.specs.Answers.{passings}
use Rattle.fields.proofs.LeafLaws.{field_length, leaf_right, leaf_short, leaf_wrong}
use Rattle.fields.proofs.fixed_at.Goals as goal

pub returns-then-not-whole : goal.returns-then-not-whole
returns-then-not-whole c =
    let a = c.args in
    rw c.refuse.ensures (leaf_short (fixed a.want.now) passings a.s.now a.p (length a.want.now) _ refl (sym c.whole.ensures ∙ not-true _ c.if-not-whole.true-raw))

pub same_bytes-requires : goal.same_bytes-requires
same_bytes-requires c =
    let a = c.args in
    rw add-sub_cancel_left (field_length a.s.now a.p (length a.want.now) (sym c.whole.ensures ∙ not-false _ c.if-not-whole.false-raw))

pub returns-then-not-same_bytes : goal.returns-then-not-same_bytes
unfolding judge number_of
returns-then-not-same_bytes c =
    let a = c.args in
    let whole = sym c.whole.ensures ∙ not-false _ c.if-not-whole.false-raw in
    let all = rw add-sub_cancel_left at c.same_bytes.ensures in
    rw c.refuse-then-not-same_bytes.ensures
    (leaf_wrong (fixed a.want.now) passings a.s.now a.p (length a.want.now) _ refl whole not_fixed (rw (← all, not-true c.same_bytes.result c.if-not-same_bytes.true-raw)))

pub returns : goal.returns
unfolding judge
returns c =
    let a = c.args in
    let whole = sym c.whole.ensures ∙ not-false _ c.if-not-whole.false-raw in
    let all = rw add-sub_cancel_left at c.same_bytes.ensures in
    leaf_right (fixed a.want.now) passings a.s.now a.p (length a.want.now) _ refl whole tt (rw (← all, not-false c.same_bytes.result c.if-not-same_bytes.false-raw))
