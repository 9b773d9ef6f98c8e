use Prim.Native.Nat.{◌+◌, ◌≤◌, ◌<◌}
use native.Mathlib.Omega.{arith}
use mathlib.Core.Path.{◌≡◌, ◌∙◌}
use lib.ListN.{length, drop}
use Rattle.listing.specs.Lines.{line_end}
use Rattle.listing.specs.Composing.{compose}
use Rattle.line_reader.specs.Reaching.{reach}
use Rattle.composer.specs.Writing.{composed_payments}
use Rattle.composer.proofs.StepLaws.{line_inside}
use Rattle.composer.proofs.WritingLaws.{next, line_written, next_room, putting_more, texts_end, texts_within, texts_counted, texts_few, counted, putting_first, all_put}
use Rattle.composer.proofs.write_payments.Goals as goal
use Rattle.composer.proofs.write_payments.Goals.{After-rest_of_line-texts}

-- a payment is still to come
left : (c : After-rest_of_line-texts) → c.loop-row._row < length (composed_payments (compose c.args.l.now))
left c = let n = counted c.requires in let h = c.loop-row-test.true in omega arith

-- its line is ended
ends : (c : After-rest_of_line-texts) → c.rest_of_line-texts.result.end ≡ c.loop-row.p + reach line_end (drop c.loop-row.p c.args.l.now)
ends c = c.rest_of_line-texts.ensures.end ∙ texts_end c.loop-row.invariant (left c)

inside : (c : After-rest_of_line-texts) → (c.loop-row.p ≤ c.rest_of_line-texts.result.end) × (c.rest_of_line-texts.result.end ≤ length c.args.l.now)
inside c = line_inside _ _ _ c.loop-row.invariant.inside (ends c)

pub loop-row-init : goal.loop-row-init
loop-row-init c = putting_first _ c.requires

pub overflow_add-p : goal.overflow_add-p
overflow_add-p c = let n = counted c.requires in omega (arith, texts_within c.loop-row.invariant (omega (arith, c.loop-row-test.true)), c.well_formed.0.1)

pub rest_of_line-texts-requires : goal.rest_of_line-texts-requires
rest_of_line-texts-requires c = let n = counted c.requires in texts_within c.loop-row.invariant (omega (arith, c.loop-row-test.true))

pub slice_bounds-write_payment-count : goal.slice_bounds-write_payment-count
slice_bounds-write_payment-count c = (inside (goal.at.slice_bounds-write_payment-count c).After-rest_of_line-texts).0

pub slice_bounds-write_payment-start : goal.slice_bounds-write_payment-start
slice_bounds-write_payment-start c = (inside (goal.at.slice_bounds-write_payment-start c).After-rest_of_line-texts).0

pub slice_bounds-write_payment-end : goal.slice_bounds-write_payment-end
slice_bounds-write_payment-end c = (inside (goal.at.slice_bounds-write_payment-end c).After-rest_of_line-texts).1

pub overflow_add-texts : goal.overflow_add-texts
overflow_add-texts c =
    let d = (goal.at.overflow_add-texts c).After-rest_of_line-texts in
    omega (arith, texts_few c.loop-row.invariant (left d) _ _ (ends d) c.rest_of_line-texts.ensures.fields)

pub write_payment-at-requires : goal.write_payment-at-requires
write_payment-at-requires c =
    let d = (goal.at.write_payment-at-requires c).After-rest_of_line-texts in
    let n = next c.loop-row.invariant (left d) c.rest_of_line-texts.result.end (ends d) in
    let w = line_written _ _ _ _ _ n.composed in
    (w.form, (texts_counted c.loop-row.invariant (left d) _ _ (ends d) c.rest_of_line-texts.ensures.fields, next_room _ _ _ _ n w))

pub overflow_add-p-in-loop-row : goal.overflow_add-p-in-loop-row
overflow_add-p-in-loop-row c = omega (arith, inside (goal.at.overflow_add-p-in-loop-row c).After-rest_of_line-texts, c.well_formed.0.1)

pub loop-row-preserved : goal.loop-row-preserved
loop-row-preserved c =
    let d = (goal.at.loop-row-preserved c).After-rest_of_line-texts in
    let n = next c.loop-row.invariant (left d) c.rest_of_line-texts.result.end (ends d) in
    putting_more c.loop-row.invariant (left d) _ (ends d) n (line_written _ _ _ _ _ n.composed) c.write_payment-at.ensures.place c.write_payment-at.ensures.out

pub shape_of-out : goal.shape_of-out
shape_of-out c = c.loop-row.invariant.long

pub returns : goal.returns
returns c =
    let n = counted c.requires in
    let said = all_put c.loop-row.invariant (omega (arith, c.loop-row-test.false)) in record { place = said.0; out = said.1 }
