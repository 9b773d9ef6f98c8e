-- trailer::figure_at meets its contract: its bytes, then the counted figure.
use Rattle.std.proofs.Common.{min}
use Rattle.std.proofs.lemmas.Result.{err_from_is_err_and}
use borrow.Author.Tests.{eq-eqb, ne_eqb}
use Rattle.diskette.specs.Fields.{figure}
use Rattle.fields.specs.Answers.{passings}
use Rattle.fields.specs.Stretches.{widest}
use Rattle.fields.proofs.LeafLaws.{ruled_broken, ruled_kept, ruled_refused}
use Rattle.trailer.proofs.figure_at.Goals as goal

pub returns-in_err-v : goal.returns-in_err-v
returns-in_err-v c =
    let a = c.args in
    let p = err_from_is_err_and c.from_residual.result c.from_residual.ensures.1 in
    rw (p.1, p.2) (ruled_refused (min a.w widest) passings (figure a.counted) a.s.now a.p _ c.in_err-v.ensures)

pub returns-then-v-counted : goal.returns-then-v-counted
returns-then-v-counted c =
    let a = c.args in
    rw c.refuse.ensures (ruled_broken (min a.w widest) passings (figure a.counted) a.s.now a.p _ c.in_ok-v.ensures (rw (ne_eqb _ _ c.if-v-counted.true)))

pub returns : goal.returns
returns c =
    let a = c.args in
    ruled_kept (min a.w widest) passings (figure a.counted) a.s.now a.p _ c.in_ok-v.ensures (rw (eq-eqb _ _ c.if-v-counted.false))
