-- payment_fields::tested_at meets its contract: its bytes, then the test.
use Rattle.std.proofs.Common.{◌<◌, ◌^◌, ◌≡◌, false, true, min, refl, sym, ◌∙◌}
use Rattle.std.proofs.lemmas.Result.{err_from_is_err_and}
use Rattle.form.proofs.FilledLaws.{look_digits}
use Rattle.fields.specs.Answers.{numbers}
use Rattle.fields.specs.Stretches.{widest}
use Rattle.fields.proofs.AnswerLaws.{number_is}
use Rattle.fields.proofs.LeafLaws.{ruled_broken, ruled_kept, ruled_refused}
use Rattle.payment_fields.specs.Ruled.{one_rule}
use Rattle.payment_fields.proofs.tested_at.Goals as goal

pub returns-in_err-v : goal.returns-in_err-v
returns-in_err-v g c holds told =
    let a = c.args in
    let p = err_from_is_err_and c.from_residual.result c.from_residual.ensures.1 in
    rw (p.1, p.2) (ruled_refused (min a.w widest) numbers (one_rule a.number holds) a.s.now a.p _ c.in_err-v.ensures)

pub test-requires : goal.test-requires
test-requires g c =
    let fits : c.in_ok-v.v < 10 ^ min c.args.w widest = look_digits _ _ _ _ (number_is _ _ _ c.in_ok-v.ensures refl).0 in
    c.requires _ fits

pub returns-then-not-test : goal.returns-then-not-test
returns-then-not-test g c holds told =
    let a = c.args in
    let fails : holds c.in_ok-v.v ≡ false = sym (told _ _ c.test.ensures) ∙ c.if-not-test.true in
    rw c.refuse.ensures (ruled_broken (min a.w widest) numbers (one_rule a.number holds) a.s.now a.p _ c.in_ok-v.ensures (rw fails))

pub returns : goal.returns
returns g c holds told =
    let a = c.args in
    let keeps : holds c.in_ok-v.v ≡ true = sym (told _ _ c.test.ensures) ∙ c.if-not-test.false in
    ruled_kept (min a.w widest) numbers (one_rule a.number holds) a.s.now a.p _ c.in_ok-v.ensures (rw keeps)
