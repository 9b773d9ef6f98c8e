-- dtaus::dtaus_list meets its contract: a result without room is refused, any other gets the figures of the listing, which has written the output.
use native.Mathlib.Omega.{arith}
use Rattle.dtaus.proofs.CallLaws.{list_short, list_told}
use Rattle.dtaus.proofs.dtaus_list.Goals as goal

pub returns-then-res-lt-WRITTEN_FIGURES : goal.returns-then-res-lt-WRITTEN_FIGURES
returns-then-res-lt-WRITTEN_FIGURES c =
    let a = c.args in
    let said = list_short a.res.now a.file.now a.output.now (omega (arith, c.if-res-lt-WRITTEN_FIGURES.true)) in record { number = said.0; output = said.1.0; res = said.1.1 }

pub tell_written-requires : goal.tell_written-requires
tell_written-requires c = c.if-res-lt-WRITTEN_FIGURES.false

pub returns : goal.returns
returns c =
    let a = c.args in
    let said = list_told a.res.now c.if-res-lt-WRITTEN_FIGURES.false a.output.now c.tell_written.ensures a.file.now (c.list-listed.ensures.answer, c.list-listed.ensures.out) in record { number = said.0; output = said.1.0; res = said.1.1 }
