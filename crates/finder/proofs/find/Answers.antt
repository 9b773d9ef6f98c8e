-- finder::find meets its contract: the check's refusal, 19, or the start of payment n.
use Prim.Native.Nat.{◌<◌}
use native.Mathlib.Omega.{arith}
use mathlib.Core.Path.{ap, subst, ◌∙◌}
use Rattle.loader.proofs.LoadLaws.{count_is}
use Rattle.finder.specs.Spots.{nowhere}
use Rattle.finder.proofs.SpotLaws.{find_refused, find_none, find_some}
use Rattle.finder.proofs.find.Goals as goal

pub returns-then-checked-ne0 : goal.returns-then-checked-ne0
returns-then-checked-ne0 c = c.from.ensures ∙ find_refused _ c.check-checked.ensures c.if-checked-ne0.true _

pub returns-then-n-checked : goal.returns-then-n-checked
returns-then-n-checked c =
    c.from-then-n-checked.ensures ∙ ap nowhere c.refuse.ensures ∙ find_none _ c.check-checked.ensures c.if-checked-ne0.false _ (omega (arith, c.if-n-checked.true))

pub start_of-start-requires : goal.start_of-start-requires
start_of-start-requires c =
    let n = c.args.n in
    subst (λ m. n < m) (count_is _ c.check-checked.ensures c.if-checked-ne0.false) c.if-n-checked.false

pub returns : goal.returns
returns c =
    find_some _ c.check-checked.ensures c.if-checked-ne0.false _ _ c.start_of-start.ensures
