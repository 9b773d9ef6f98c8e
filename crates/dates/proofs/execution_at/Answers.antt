-- dates::execution_at meets its contract: blanks, or eight digits that name a day in order (`undated`, `dated`).
use Rattle.std.proofs.Common.{refl}
use Rattle.std.proofs.lemmas.Result.{err_from_is_err_and}
use Rattle.form.specs.Kind.{maybe}
use Rattle.diskette.specs.Fields.{rules_a11b}
use Rattle.calendar.specs.Days.{day_of}
use Rattle.fields.proofs.AnswerLaws.{maybe_fails}
use Rattle.fields.proofs.LeafLaws.{field_fails}
use Rattle.dates.specs.Dates.{executions}
use Rattle.dates.proofs.Laws.{dated, undated}
use Rattle.dates.proofs.execution_at.Goals as goal

pub returns-in_err-date : goal.returns-in_err-date
returns-in_err-date c =
    let a = c.args in
    let p = err_from_is_err_and c.from_residual.result c.from_residual.ensures.1 in
    rw (p.1, p.2) (field_fails (maybe 8) executions (rules_a11b (day_of a.made)) a.s.now a.p _ (maybe_fails _ _ _ c.in_err-date.ensures refl))

pub returns-in_default : goal.returns-in_default
returns-in_default c = let a = c.args in undated (day_of a.made) a.s.now a.p c.in_ok-date.ensures c.in_default.is

pub returns-in-NoSuchDay : goal.returns-in-NoSuchDay
returns-in-NoSuchDay c =
    let a = c.args in
    rw c.refuse.ensures (dated (day_of a.made) a.s.now a.p c.in_ok-date.ensures c.in-Some.is c.of_ddmmyyyy-day.ensures c.in-NoSuchDay.ensures)

pub returns-in-TooEarly : goal.returns-in-TooEarly
returns-in-TooEarly c =
    let a = c.args in
    rw c.refuse-in-TooEarly.ensures (dated (day_of a.made) a.s.now a.p c.in_ok-date.ensures c.in-Some.is c.of_ddmmyyyy-day.ensures c.in-TooEarly.ensures)

pub returns-in-TooLate : goal.returns-in-TooLate
returns-in-TooLate c =
    let a = c.args in
    rw c.refuse-in-TooLate.ensures (dated (day_of a.made) a.s.now a.p c.in_ok-date.ensures c.in-Some.is c.of_ddmmyyyy-day.ensures c.in-TooLate.ensures)

pub returns-in-InOrder : goal.returns-in-InOrder
returns-in-InOrder c =
    let a = c.args in
    dated (day_of a.made) a.s.now a.p c.in_ok-date.ensures c.in-Some.is c.of_ddmmyyyy-day.ensures c.in-InOrder.ensures
