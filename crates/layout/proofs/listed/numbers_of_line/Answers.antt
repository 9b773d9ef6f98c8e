-- layout::listed::numbers_of_line meets its contract: the constants are the places, computed.
use mathlib.Core.Path.{refl}
use Rattle.layout.proofs.listed.numbers_of_line.Goals as goal

pub returns : goal.returns
returns c = refl
