-- loader::load meets its contract: the check's refusal, no room, or all rows.
use borrow.Author.Tests.{not-false, not-true}
use Rattle.loader.proofs.LoadLaws.{load_refused, load_no_room, may_fill, load_full}
use Rattle.loader.proofs.load.Goals as goal

pub returns-then-checked-ne0 : goal.returns-then-checked-ne0
returns-then-checked-ne0 c =
    let said = load_refused _ _ _ _ _ c.check-checked.ensures c.if-checked-ne0.true in record { answer = said.0; c4 = said.1.0; c5 = said.1.1.0; c12 = said.1.1.1.0; start = said.1.1.1.1 }

pub returns-then-not-roomy : goal.returns-then-not-roomy
returns-then-not-roomy c =
    let said = (load_no_room _ _ _ _ _ c.check-checked.ensures c.if-checked-ne0.false (not-true _ c.if-not-roomy.true-raw)) in record { answer = rw (c.from.ensures, c.refuse.ensures) said.0; c4 = rw (c.from.ensures, c.refuse.ensures) said.1.0; c5 = rw (c.from.ensures, c.refuse.ensures) said.1.1.0; c12 = rw (c.from.ensures, c.refuse.ensures) said.1.1.1.0; start = rw (c.from.ensures, c.refuse.ensures) said.1.1.1.1 }

pub fill-requires : goal.fill-requires
fill-requires c =
    let a = c.args in
    may_fill a.s.now a.c4.now a.c5.now a.c12.now a.start.now c.check-checked.ensures c.if-checked-ne0.false (not-false _ c.if-not-roomy.false-raw)

pub returns : goal.returns
returns c =
    let said = load_full _ _ _ _ _ c.check-checked.ensures c.if-checked-ne0.false (not-false _ c.if-not-roomy.false-raw) (c.fill.ensures.c4, (c.fill.ensures.c5, (c.fill.ensures.c12, c.fill.ensures.start))) in record { answer = said.0; c4 = said.1.0; c5 = said.1.1.0; c12 = said.1.1.1.0; start = said.1.1.1.1 }
