-- dtaus::dtaus_load meets its contract: a result without room is refused, any other gets the figures of the load, which has filled the columns.
use native.Mathlib.Omega.{arith}
use Rattle.dtaus.proofs.CallLaws.{load_short, load_told}
use Rattle.dtaus.proofs.dtaus_load.Goals as goal

pub returns-then-res-lt-OUTCOME_FIGURES : goal.returns-then-res-lt-OUTCOME_FIGURES
returns-then-res-lt-OUTCOME_FIGURES c =
    let a = c.args in
    let said = load_short a.res.now a.file.now a.c4.now a.c5.now a.c12.now a.start.now (omega (arith, c.if-res-lt-OUTCOME_FIGURES.true)) in record { number = said.0; c4 = said.1.0; c5 = said.1.1.0; c12 = said.1.1.1.0; start = said.1.1.1.1.0; res = said.1.1.1.1.1 }

pub tell_outcome-requires : goal.tell_outcome-requires
tell_outcome-requires c = c.if-res-lt-OUTCOME_FIGURES.false

pub returns : goal.returns
returns c =
    let a = c.args in
    let said = load_told a.res.now a.file.now a.c4.now a.c5.now a.c12.now a.start.now c.if-res-lt-OUTCOME_FIGURES.false (c.load-loaded.ensures.answer, (c.load-loaded.ensures.c4, (c.load-loaded.ensures.c5, (c.load-loaded.ensures.c12, c.load-loaded.ensures.start)))) c.tell_outcome.ensures in record { number = said.0; c4 = said.1.0; c5 = said.1.1.0; c12 = said.1.1.1.0; start = said.1.1.1.1.0; res = said.1.1.1.1.1 }
