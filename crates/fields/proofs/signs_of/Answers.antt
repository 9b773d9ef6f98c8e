use Rattle.std.proofs.Common.{eqb, ◌∙◌, arith}
use Rattle.document.specs.Signs.{sign}
use Rattle.fields.specs.Stretches.{signs_of}
use Rattle.fields.proofs.StretchLaws.{flag_end, flag_more, halves_all, halves_end, halves_more}
use Rattle.fields.proofs.signs_of.Goals as goal

pub loop-i-preserved : goal.loop-i-preserved
loop-i-preserved c =
    let l = c.loop-i in
    let f = c.args.f.now in (
      rw (c.is_sign.ensures, c.is_sign-in-loop-i.ensures)
          (flag_more _ l.invariant.0 (halves_more sign f c.requires l.i (omega arith))),
      flag_more _ l.invariant.1 (halves_more (λ b. eqb b 0x20) f c.requires l.i (omega arith)),
    )

pub returns : goal.returns
unfolding signs_of
returns c =
    let l = c.loop-i in
    let f = c.args.f.now in
    rw (
      flag_end l.invariant.0 (halves_end sign f c.requires l.i (omega arith)) ∙ halves_all sign f c.requires,
      flag_end l.invariant.1 (halves_end (λ b. eqb b 0x20) f c.requires l.i (omega arith)) ∙ halves_all (λ b. eqb b 0x20) f c.requires,
    )
