-- dtaus::dtaus_check_medium meets its contract: a result without room is refused, any other gets the figures of the check of the medium.
use native.Mathlib.Omega.{arith}
use Rattle.dtaus.proofs.MediumLaws.{check_medium_short, check_medium_told}
use Rattle.dtaus.proofs.dtaus_check_medium.Goals as goal

pub returns-then-res-lt-MEDIUM_FIGURES : goal.returns-then-res-lt-MEDIUM_FIGURES
returns-then-res-lt-MEDIUM_FIGURES c =
    let a = c.args in
    let said = check_medium_short a.res.now a.medium.now (omega (arith, c.if-res-lt-MEDIUM_FIGURES.true)) in record { number = said.0; res = said.1 }

pub tell_medium-requires : goal.tell_medium-requires
tell_medium-requires c = c.if-res-lt-MEDIUM_FIGURES.false

pub returns : goal.returns
returns c =
    let a = c.args in
    let said = check_medium_told a.res.now a.medium.now c.if-res-lt-MEDIUM_FIGURES.false c.check_medium-medium_checked.ensures c.tell_medium.ensures in record { number = said.0; res = said.1 }
