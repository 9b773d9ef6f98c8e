-- fields::kind_at meets its contract: whole, then the two letters.
use Rattle.std.proofs.Common.{◌+◌, [], ◌∷◌, get_or, refl, sym, ◌∙◌}
use borrow.Author.Tests.{not-false, not-true}
use Rattle.form.specs.Kind.{choice}
use Rattle.form.specs.Reader.{not_fixed}
use Rattle.verdict.specs.Verdicts.{number_of}
use Rattle.document.specs.Rules.{file_kinds}
use Rattle.fields.specs.Answers.{kinds}
use Rattle.fields.proofs.KindLaws.{judge_kind, kind_letters, named, two_bytes}
use Rattle.fields.proofs.LeafLaws.{ends_inside, leaf_right, leaf_short, leaf_wrong}
use Rattle.fields.proofs.kind_at.Goals as goal

pub returns-then-not-whole : goal.returns-then-not-whole
returns-then-not-whole c =
    let a = c.args in
    rw c.refuse.ensures (leaf_short (choice 2 file_kinds) kinds a.s.now a.p 2 _ refl (sym c.whole.ensures ∙ not-true _ c.if-not-whole.true-raw))

pub returns-then-not-named : goal.returns-then-not-named
unfolding number_of
returns-then-not-named c =
    let a = c.args in
    let x = get_or a.s.now a.p 0 in
    let y = get_or a.s.now (a.p + 1) 0 in
    let whole = sym c.whole.ensures ∙ not-false _ c.if-not-whole.false-raw in
    let two = two_bytes a.s.now a.p (ends_inside a.s.now a.p 2 whole) in
    rw c.refuse-then-not-named.ensures
    (leaf_wrong (choice 2 file_kinds) kinds a.s.now a.p 2 _ refl whole not_fixed (rw (two, judge_kind x y, not-true (named x y) c.if-not-named.true-raw)))

pub returns : goal.returns
returns c =
    let a = c.args in
    let x = get_or a.s.now a.p 0 in
    let y = get_or a.s.now (a.p + 1) 0 in
    let whole = sym c.whole.ensures ∙ not-false _ c.if-not-whole.false-raw in
    let two = two_bytes a.s.now a.p (ends_inside a.s.now a.p 2 whole) in
    rw (kind_letters x y) (leaf_right (choice 2 file_kinds) kinds a.s.now a.p 2 _ refl whole (x ∷ y ∷ []) (rw (two, judge_kind x y, not-false (named x y) c.if-not-named.false-raw)))
