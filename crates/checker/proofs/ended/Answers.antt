-- checker::ended meets its contract: E, and the place behind it.
use Rattle.std.proofs.lemmas.Result.{err_from_is_err_and}
use Rattle.sums.specs.Sums.{totals_of}
use Rattle.checker.proofs.Laws.{end_read, end_refused}
use Rattle.checker.proofs.ended.Goals as goal

pub returns-in_err-end : goal.returns-in_err-end
returns-in_err-end c =
    let a = c.args in
    let p = err_from_is_err_and c.from_residual.result c.from_residual.ensures.1 in
    rw (p.1, p.2) (end_refused a.s.now (totals_of a.count a.sums) a.p c.in_err-end.ensures)

pub returns : goal.returns
returns c = let a = c.args in end_read a.s.now (totals_of a.count a.sums) a.p c.in_ok-end.ensures
