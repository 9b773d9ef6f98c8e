-- dtaus::dtaus_find meets its contract: a result without room is refused, any other gets the figures of the stretch found.
use native.Mathlib.Omega.{arith}
use Rattle.dtaus.proofs.CallLaws.{find_short, find_told}
use Rattle.dtaus.proofs.dtaus_find.Goals as goal

pub returns-then-res-lt-SPOT_FIGURES : goal.returns-then-res-lt-SPOT_FIGURES
returns-then-res-lt-SPOT_FIGURES c =
    let a = c.args in
    let said = find_short a.res.now a.file.now a.n (omega (arith, c.if-res-lt-SPOT_FIGURES.true)) in record { number = said.0; res = said.1 }

pub tell_spot-requires : goal.tell_spot-requires
tell_spot-requires c = c.if-res-lt-SPOT_FIGURES.false

pub returns : goal.returns
returns c =
    let a = c.args in
    let said = find_told a.res.now c.if-res-lt-SPOT_FIGURES.false c.tell_spot.ensures a.file.now a.n c.find-spot.ensures in record { number = said.0; res = said.1 }
