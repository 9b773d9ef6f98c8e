-- fields::signs_at meets its contract: whole, then every sign, and whether all are blanks.
use Rattle.std.proofs.Common.{◌∙◌, ap, refl, sym}
use native.Mathlib.Nat.{add-sub_cancel_left}
use borrow.Author.Tests.{not-false, not-true}
use Rattle.verdict.specs.Verdicts.{number_of}
use Rattle.diskette.specs.Fields.{text27}
use Rattle.fields.specs.declared.Signs.{Signs}
use Rattle.fields.specs.Answers.{of_field}
use Rattle.fields.specs.Stretches.{signs_of, texts}
use Rattle.fields.proofs.LeafLaws.{leaf_short, text_has, text_not}
use Rattle.fields.proofs.signs_at.Goals as goal

pub returns-then-not-whole : goal.returns-then-not-whole
returns-then-not-whole c =
    let a = c.args in
    rw c.refuse.ensures (leaf_short text27 texts a.s.now a.p 27 _ refl (sym c.whole.ensures ∙ not-true _ c.if-not-whole.true-raw))

pub returns-then-not-signs : goal.returns-then-not-signs
unfolding number_of of_field signs_of
returns-then-not-signs c =
    let whole = sym c.whole.ensures ∙ not-false _ c.if-not-whole.false-raw in
    let permitted = ap (λ (x : Signs). x.permitted) (rw add-sub_cancel_left at c.signs_of-signs.ensures) in
    rw (c.refuse-then-not-signs.ensures, text_not c.args.s.now c.args.p whole (sym permitted ∙ not-true c.signs_of-signs.result.permitted c.if-not-signs.true))

pub returns : goal.returns
unfolding of_field signs_of
returns c =
    let whole = sym c.whole.ensures ∙ not-false _ c.if-not-whole.false-raw in
    let signs = rw add-sub_cancel_left at c.signs_of-signs.ensures in
    let permitted = ap (λ (x : Signs). x.permitted) signs in
    rw (ap (λ (x : Signs). x.blank) signs, text_has c.args.s.now c.args.p whole (sym permitted ∙ not-false c.signs_of-signs.result.permitted c.if-not-signs.false))
