-- finder::locate meets its contract: the check's refusal, 19, or where the text stands in the payment that begins there.
-- There is no loop. Each return is a case of `locate_at`, by the law of SpotLaws for it, from the check's answer and from what `begins`,
-- `count_at` and `has_text` have told. Where the payment has the text, `Located` says what is left besides: the longest payment has it too, which
-- `text_place` asks for, and it ends in the file, so that neither addition wraps.
use Prim.Native.Nat.{◌+◌}
use native.Mathlib.Omega.{arith}
use mathlib.Core.Path.{sym, ap, ◌∙◌}
use Rattle.loader.proofs.LoadLaws.{count_is}
use Rattle.finder.specs.Texts.{text_width}
use Rattle.finder.specs.Spots.{nowhere, standing}
use Rattle.finder.proofs.SpotLaws.{locate_refused, locate_none, locate_no_text, locate_text, Located, located}
use Rattle.finder.proofs.locate.Goals as goal
use Rattle.finder.proofs.locate.Goals.{Else-not-has_text}

pub returns-then-checked-ne0 : goal.returns-then-checked-ne0
returns-then-checked-ne0 c = c.from.ensures ∙ locate_refused _ c.check-checked.ensures c.if-checked-ne0.true _ _

pub begins-requires : goal.begins-requires
begins-requires c = count_is _ c.check-checked.ensures c.if-checked-ne0.false

pub returns-then-not-begins : goal.returns-then-not-begins
returns-then-not-begins c =
    c.from-then-not-begins.ensures
    ∙ ap nowhere c.refuse.ensures
    ∙ locate_none _ c.check-checked.ensures c.if-checked-ne0.false _ _ (sym c.begins.ensures ∙ c.if-not-begins.true)

pub returns-then-not-has_text : goal.returns-then-not-has_text
returns-then-not-has_text c =
    c.from-then-not-has_text.ensures
    ∙ ap nowhere c.refuse-then-not-has_text.ensures
    ∙ locate_no_text _ c.check-checked.ensures c.if-checked-ne0.false _ _ (sym c.begins.ensures ∙ c.if-not-begins.false) c.count_at-k.ensures
    (sym c.has_text.ensures ∙ c.if-not-has_text.true)

-- what both additions and the last call rest on
there : (c : Else-not-has_text) → Located c.args.s.now c.args.start c.args.w
there c =
    let begun = sym c.begins.ensures ∙ c.if-not-begins.false in
    located _ c.check-checked.ensures c.if-checked-ne0.false c.args.start c.args.w begun c.count_at-k.ensures (sym c.has_text.ensures ∙ c.if-not-has_text.false)

pub text_place-requires : goal.text_place-requires
text_place-requires c = (there (goal.at.text_place-requires c).Else-not-has_text).longest

pub overflow_add-from : goal.overflow_add-from
overflow_add-from c = let l = there (goal.at.overflow_add-from c).Else-not-has_text in omega (arith, l.ends)

pub overflow_add-result : goal.overflow_add-result
overflow_add-result c = let l = there (goal.at.overflow_add-result c).Else-not-has_text in omega (arith, l.ends)

pub returns : goal.returns
returns c =
    let a = c.args in
    let begun = sym c.begins.ensures ∙ c.if-not-begins.false in
    ap (λ n. standing (a.start + n) (a.start + n + text_width)) c.text_place.ensures
    ∙ locate_text a.s.now c.check-checked.ensures c.if-checked-ne0.false a.start a.w begun c.count_at-k.ensures (sym c.has_text.ensures ∙ c.if-not-has_text.false)
