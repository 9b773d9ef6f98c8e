-- dates::made_at meets its contract: six digits, then the day that they name.
use Rattle.std.proofs.Common.{sym, ◌∙◌}
use Rattle.std.proofs.lemmas.Result.{err_from_is_err_and}
use borrow.Author.Tests.{not-false, not-true}
use Rattle.diskette.specs.Fields.{rules_a7}
use Rattle.fields.proofs.LeafLaws.{ruled_broken, ruled_kept, ruled_refused}
use Rattle.dates.specs.Dates.{days}
use Rattle.dates.proofs.Laws.{names_made}
use Rattle.dates.proofs.made_at.Goals as goal

pub returns-in_err-n : goal.returns-in_err-n
returns-in_err-n c =
    let a = c.args in
    let p = err_from_is_err_and c.from_residual.result c.from_residual.ensures.1 in
    rw (p.1, p.2) (ruled_refused 6 days rules_a7 a.s.now a.p _ c.in_err-n.ensures)

pub returns-then-not-is_day : goal.returns-then-not-is_day
returns-then-not-is_day c =
    let a = c.args in
    let named = names_made a.s.now a.p c.in_ok-n.ensures c.of_ddmmyy-day.ensures in
    let wrong = sym (rw named at c.is_day.ensures) ∙ not-true _ c.if-not-is_day.true-raw in
    rw c.refuse.ensures (ruled_broken 6 days rules_a7 a.s.now a.p _ c.in_ok-n.ensures (rw wrong))

pub returns : goal.returns
returns c =
    let a = c.args in
    let named = names_made a.s.now a.p c.in_ok-n.ensures c.of_ddmmyy-day.ensures in
    let right = sym (rw named at c.is_day.ensures) ∙ not-false _ c.if-not-is_day.false-raw in
    rw named (ruled_kept 6 days rules_a7 a.s.now a.p _ c.in_ok-n.ensures (rw right))
