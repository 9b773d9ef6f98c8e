-- dtaus::dtaus_compose meets its contract: a result without room is refused, any other gets the figures of the composing, which has written the
-- output.
use native.Mathlib.Omega.{arith}
use Rattle.dtaus.proofs.CallLaws.{compose_short, compose_told}
use Rattle.dtaus.proofs.dtaus_compose.Goals as goal

pub returns-then-res-lt-WRITTEN_FIGURES : goal.returns-then-res-lt-WRITTEN_FIGURES
returns-then-res-lt-WRITTEN_FIGURES c =
    let a = c.args in
    let said = compose_short a.res.now a.listing.now a.output.now (omega (arith, c.if-res-lt-WRITTEN_FIGURES.true)) in record { number = said.0; output = said.1.0; res = said.1.1 }

pub tell_written-requires : goal.tell_written-requires
tell_written-requires c = c.if-res-lt-WRITTEN_FIGURES.false

pub returns : goal.returns
returns c =
    let a = c.args in
    let said = compose_told a.res.now c.if-res-lt-WRITTEN_FIGURES.false a.output.now c.tell_written.ensures a.listing.now (c.compose-composed.ensures.answer, c.compose-composed.ensures.out) in record { number = said.0; output = said.1.0; res = said.1.1 }
