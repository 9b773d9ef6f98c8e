-- dtaus::dtaus_check meets its contract: a result without room is refused, any other gets the figures of the check.
use native.Mathlib.Omega.{arith}
use Rattle.dtaus.proofs.CallLaws.{check_short, check_told}
use Rattle.dtaus.proofs.dtaus_check.Goals as goal

pub returns-then-res-lt-OUTCOME_FIGURES : goal.returns-then-res-lt-OUTCOME_FIGURES
returns-then-res-lt-OUTCOME_FIGURES c =
    let a = c.args in
    let said = check_short a.res.now a.file.now (omega (arith, c.if-res-lt-OUTCOME_FIGURES.true)) in record { number = said.0; res = said.1 }

pub tell_outcome-requires : goal.tell_outcome-requires
tell_outcome-requires c = c.if-res-lt-OUTCOME_FIGURES.false

pub returns : goal.returns
returns c =
    let a = c.args in
    let said = check_told a.res.now a.file.now c.if-res-lt-OUTCOME_FIGURES.false c.check-checked.ensures c.tell_outcome.ensures in record { number = said.0; res = said.1 }
