-- fields::name_at meets its contract: a text, then its rule, that not all of it is blank.
use Rattle.std.proofs.Common.{refl}
use Rattle.std.proofs.lemmas.Result.{err_from_is_err_and}
use Rattle.diskette.specs.Fields.{text27, rules_of_names}
use Rattle.fields.specs.Answers.{passings}
use Rattle.fields.specs.Stretches.{texts}
use Rattle.fields.proofs.LeafLaws.{field_fails, name_broken, name_kept}
use Rattle.fields.proofs.WalkLaws.{fails}
use Rattle.fields.proofs.name_at.Goals as goal

pub returns-in_err-blank : goal.returns-in_err-blank
returns-in_err-blank c =
    let a = c.args in
    let p = err_from_is_err_and c.from_residual.result c.from_residual.ensures.1 in
    rw (p.1, p.2) (field_fails text27 passings rules_of_names a.s.now a.p _ (fails texts _ _ _ c.in_err-blank.ensures refl))

pub returns-then-blank : goal.returns-then-blank
returns-then-blank c = rw c.refuse.ensures (name_broken _ _ _ c.in_ok-blank.ensures c.if-blank.true)

pub returns : goal.returns
returns c = name_kept _ _ _ c.in_ok-blank.ensures c.if-blank.false
