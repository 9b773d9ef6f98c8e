-- dtaus::dtaus_load_medium meets its contract: a result without room is refused, any other gets the figures of the load, which has filled columns
-- and table.
use native.Mathlib.Omega.{arith}
use Rattle.dtaus.proofs.MediumLaws.{load_medium_short, load_medium_told}
use Rattle.dtaus.proofs.dtaus_load_medium.Goals as goal

pub returns-then-res-lt-MEDIUM_FIGURES : goal.returns-then-res-lt-MEDIUM_FIGURES
returns-then-res-lt-MEDIUM_FIGURES c =
    let a = c.args in
    let said = load_medium_short a.res.now a.medium.now a.c4.now a.c5.now a.c12.now a.start.now a.begin.now a.count.now a.sum5.now a.sum4.now a.sum12.now
    (omega (arith, c.if-res-lt-MEDIUM_FIGURES.true)) in record { number = said.0; c4 = said.1.0; c5 = said.1.1.0; c12 = said.1.1.1.0; start = said.1.1.1.1.0; begin = said.1.1.1.1.1.0; count = said.1.1.1.1.1.1.0; sum5 = said.1.1.1.1.1.1.1.0; sum4 = said.1.1.1.1.1.1.1.1.0; sum12 = said.1.1.1.1.1.1.1.1.1.0; res = said.1.1.1.1.1.1.1.1.1.1 }

pub tell_medium-requires : goal.tell_medium-requires
tell_medium-requires c =
    c.if-res-lt-MEDIUM_FIGURES.false

pub returns : goal.returns
returns c =
    let a = c.args in
    let said = load_medium_told a.res.now a.medium.now a.c4.now a.c5.now a.c12.now a.start.now a.begin.now a.count.now a.sum5.now a.sum4.now a.sum12.now
    c.if-res-lt-MEDIUM_FIGURES.false (c.load_medium-medium_loaded.ensures.answer, (c.load_medium-medium_loaded.ensures.c4, (c.load_medium-medium_loaded.ensures.c5, (c.load_medium-medium_loaded.ensures.c12, (c.load_medium-medium_loaded.ensures.start, (c.load_medium-medium_loaded.ensures.begin, (c.load_medium-medium_loaded.ensures.count, (c.load_medium-medium_loaded.ensures.sum5, (c.load_medium-medium_loaded.ensures.sum4, c.load_medium-medium_loaded.ensures.sum12))))))))) c.tell_medium.ensures in record { number = said.0; c4 = said.1.0; c5 = said.1.1.0; c12 = said.1.1.1.0; start = said.1.1.1.1.0; begin = said.1.1.1.1.1.0; count = said.1.1.1.1.1.1.0; sum5 = said.1.1.1.1.1.1.1.0; sum4 = said.1.1.1.1.1.1.1.1.0; sum12 = said.1.1.1.1.1.1.1.1.1.0; res = said.1.1.1.1.1.1.1.1.1.1 }
