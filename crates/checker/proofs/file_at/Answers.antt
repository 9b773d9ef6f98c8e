use native.Mathlib.Omega.{arith}
use mathlib.Core.Path.{refl}
use Rattle.std.proofs.lemmas.Result.{err_from_is_err_and}
use Rattle.fields.specs.Answers.{numbers}
use Rattle.fields.proofs.AnswerLaws.{number_is}
use Rattle.fields.proofs.WalkLaws.{fails}
use Rattle.checker.proofs.TurnLaws.{header_refuses, one_more, payment_refuses, turn_ends, turn_fails, turn_first, turn_more}
use Rattle.checker.proofs.file_at.Goals as goal

pub returns-in_err-h : goal.returns-in_err-h
returns-in_err-h c =
    let p = err_from_is_err_and c.from_residual.result c.from_residual.ensures.1 in
    rw (p.1, p.2) (header_refuses _ _ c.in_err-h.ensures)

pub loop-l-init : goal.loop-l-init
loop-l-init c = turn_first _ _ c.in_ok-h.ensures

pub returns-then-l-eq-END_TOLD : goal.returns-then-l-eq-END_TOLD
returns-then-l-eq-END_TOLD c = turn_ends c.loop-l.invariant (number_is _ _ _ c.in_ok-l.ensures refl) c.if-l-eq-END_TOLD.true c.ended.ensures

pub overflow_add-count : goal.overflow_add-count
overflow_add-count c = let h = one_more c.loop-l.invariant (number_is _ _ _ c.in_ok-l.ensures refl) c.if-l-eq-END_TOLD.false in omega arith

pub loop-l-smaller : goal.loop-l-smaller
loop-l-smaller c = let h = one_more c.loop-l.invariant (number_is _ _ _ c.in_ok-l.ensures refl) c.if-l-eq-END_TOLD.false in omega arith

pub returns-in_err-l : goal.returns-in_err-l
returns-in_err-l c =
    let p = err_from_is_err_and c.from_residual-in_err-l.result c.from_residual-in_err-l.ensures.1 in
    rw (p.1, p.2) (turn_fails c.loop-l.invariant (fails numbers _ _ _ c.in_err-l.ensures refl))

pub returns-in_err-new_sums : goal.returns-in_err-new_sums
returns-in_err-new_sums c =
    let p = err_from_is_err_and c.from_residual-in_err-new_sums.result c.from_residual-in_err-new_sums.ensures.1 in
    rw (p.1, p.2) (payment_refuses c.loop-l.invariant (number_is _ _ _ c.in_ok-l.ensures refl) c.if-l-eq-END_TOLD.false c.in_err-new_sums.ensures)

pub loop-l-preserved : goal.loop-l-preserved
loop-l-preserved c = turn_more c.loop-l.invariant (number_is _ _ _ c.in_ok-l.ensures refl) c.if-l-eq-END_TOLD.false c.in_ok-new_sums.ensures
