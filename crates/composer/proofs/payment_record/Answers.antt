-- composer::payment_record meets its contract: the first field, then the fields behind it.
use mathlib.Core.Path.{refl, sym, ◌∙◌}
use Rattle.std.proofs.lemmas.Result.{err_from_is_err_and}
use Rattle.fields.proofs.WalkLaws.{fails, start, past_ruled, stopped_ruled}
use Rattle.fields.proofs.AnswerLaws.{number_is}
use Rattle.fields.specs.Answers.{numbers, letters_of}
use Rattle.sums.specs.Sums.{totals_of}
use Rattle.listing.specs.Composing.{whole_payment}
use Rattle.composer.proofs.payment_record.Goals as goal

pub returns-in_err-l : goal.returns-in_err-l
returns-in_err-l c =
    let p = err_from_is_err_and c.from_residual.result c.from_residual.ensures.1 in
    rw (p.1, p.2) (stopped_ruled (start (whole_payment (letters_of c.args.kind) (totals_of c.args.count c.args.sums)) 0) (fails numbers _ _ _ c.in_err-l.ensures refl))

pub returns : goal.returns
returns c =
    c.payment_at.ensures ∙ sym
    (past_ruled (start (whole_payment (letters_of c.args.kind) (totals_of c.args.count c.args.sums)) 0) (number_is _ _ _ c.in_ok-l.ensures refl)).owed
