-- dtaus::dtaus_version meets its contract: the constant is the version.
use mathlib.Core.Path.{refl}
use Rattle.dtaus.proofs.dtaus_version.Goals as goal

pub returns : goal.returns
returns c = refl
