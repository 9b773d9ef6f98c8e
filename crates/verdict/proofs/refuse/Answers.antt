-- verdict::refuse meets its contract: number and place as they are given.
use mathlib.Core.Path.{refl}
use Rattle.verdict.proofs.refuse.Goals as goal

pub returns : goal.returns
returns c = refl
