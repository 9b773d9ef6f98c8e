-- header::sending_bank_at meets its contract: its bytes, then zeros in the file of a customer.
use Rattle.std.proofs.lemmas.Result.{err_from_is_err_and}
use Rattle.diskette.specs.Fields.{rules_a5}
use Rattle.fields.specs.Answers.{letters_of, numbers}
use Rattle.fields.proofs.LeafLaws.{ruled_broken, ruled_kept, ruled_refused}
use Rattle.header.proofs.Laws.{sending_test}
use Rattle.header.proofs.sending_bank_at.Goals as goal

pub returns-in_err-v : goal.returns-in_err-v
returns-in_err-v c =
    let a = c.args in
    let p = err_from_is_err_and c.from_residual.result c.from_residual.ensures.1 in
    rw (p.1, p.2) (ruled_refused 8 numbers (rules_a5 (letters_of a.kind)) a.s.now a.p _ c.in_err-v.ensures)

pub returns-then-kind-v : goal.returns-then-kind-v
returns-then-kind-v c =
    let a = c.args in
    rw c.refuse.ensures (ruled_broken 8 numbers (rules_a5 (letters_of a.kind)) a.s.now a.p _ c.in_ok-v.ensures (rw (sending_test a.kind _ c.if-kind-v.true)))

pub returns : goal.returns
returns c =
    let a = c.args in
    ruled_kept 8 numbers (rules_a5 (letters_of a.kind)) a.s.now a.p _ c.in_ok-v.ensures (rw (sending_test a.kind _ c.if-kind-v.false))
