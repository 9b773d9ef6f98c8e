-- layout::listed::widths_of_e meets its contract: the constants are the widths.
use mathlib.Core.Path.{refl}
use Rattle.layout.proofs.listed.widths_of_e.Goals as goal

pub returns : goal.returns
returns c = refl
