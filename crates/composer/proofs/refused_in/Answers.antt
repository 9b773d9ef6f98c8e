-- composer::refused_in meets its contract: the field is named where it stands in the line.
use Prim.Native.Nat.{◌+◌}
use native.Mathlib.Omega.{arith}
use mathlib.Core.Path.{ap, ◌∙◌}
use Rattle.fields.specs.Answers.{refusal_of}
use Rattle.composer.proofs.ToldLaws.{place_inside}
use Rattle.composer.proofs.refused_in.Goals as goal

pub overflow_add-p : goal.overflow_add-p
overflow_add-p c =
    let h = place_inside _ _ _ c.args.why.place c.requires.0 in
    let l = c.requires.1 in
    let e = c.place_of-place.ensures in
    omega arith

pub returns : goal.returns
returns c =
    c.refuse.ensures ∙ ap (λ q. refusal_of c.args.why.number (c.args.p + q)) c.place_of-place.ensures
