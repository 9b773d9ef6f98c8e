-- dtaus::dtaus_text meets its contract: a result without room is refused, any other gets the figures of the stretch of the text that the number
-- names.
use native.Mathlib.Omega.{arith}
use mathlib.Core.Path.{ap, ◌∙◌}
use Rattle.finder.specs.Spots.{locate_at}
use Rattle.dtaus.proofs.CallLaws.{text_short, text_told}
use Rattle.dtaus.proofs.dtaus_text.Goals as goal

pub returns-then-res-lt-SPOT_FIGURES : goal.returns-then-res-lt-SPOT_FIGURES
returns-then-res-lt-SPOT_FIGURES c =
    let a = c.args in
    let said = text_short a.res.now a.file.now a.start a.wanted (omega (arith, c.if-res-lt-SPOT_FIGURES.true)) in record { number = said.0; res = said.1 }

pub tell_spot-requires : goal.tell_spot-requires
tell_spot-requires c = c.if-res-lt-SPOT_FIGURES.false

pub returns : goal.returns
returns c =
    let a = c.args in
    let said = text_told a.res.now c.if-res-lt-SPOT_FIGURES.false c.tell_spot.ensures a.file.now a.start a.wanted
    (c.locate-spot.ensures ∙ ap (locate_at a.file.now a.start) c.text_named.ensures) in record { number = said.0; res = said.1 }
