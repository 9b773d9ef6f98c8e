-- loader::load_medium meets its contract: the check's refusal, no room, or all rows.
use borrow.Author.Tests.{not-false, not-true}
use Rattle.loader.proofs.MediumLoadLaws.{medium_refused, medium_no_room, medium_may_fill, medium_full}
use Rattle.loader.proofs.load_medium.Goals as goal

pub returns-then-medium_checked-ne0 : goal.returns-then-medium_checked-ne0
returns-then-medium_checked-ne0 c =
    let said = medium_refused _ _ _ _ _ _ _ _ _ _ c.check_medium-medium_checked.ensures c.if-medium_checked-ne0.true in record { answer = said.0; c4 = said.1.0; c5 = said.1.1.0; c12 = said.1.1.1.0; start = said.1.1.1.1.0; begin = said.1.1.1.1.1.0; count = said.1.1.1.1.1.1.0; sum5 = said.1.1.1.1.1.1.1.0; sum4 = said.1.1.1.1.1.1.1.1.0; sum12 = said.1.1.1.1.1.1.1.1.1 }

pub returns-then-not-columns-table : goal.returns-then-not-columns-table
returns-then-not-columns-table c =
    let said = (medium_no_room _ _ _ _ _ _ _ _ _ _ c.check_medium-medium_checked.ensures c.if-medium_checked-ne0.false (not-true _ c.if-not-columns-table.true-raw)) in record { answer = rw (c.from.ensures, c.refuse.ensures) said.0; c4 = rw (c.from.ensures, c.refuse.ensures) said.1.0; c5 = rw (c.from.ensures, c.refuse.ensures) said.1.1.0; c12 = rw (c.from.ensures, c.refuse.ensures) said.1.1.1.0; start = rw (c.from.ensures, c.refuse.ensures) said.1.1.1.1.0; begin = rw (c.from.ensures, c.refuse.ensures) said.1.1.1.1.1.0; count = rw (c.from.ensures, c.refuse.ensures) said.1.1.1.1.1.1.0; sum5 = rw (c.from.ensures, c.refuse.ensures) said.1.1.1.1.1.1.1.0; sum4 = rw (c.from.ensures, c.refuse.ensures) said.1.1.1.1.1.1.1.1.0; sum12 = rw (c.from.ensures, c.refuse.ensures) said.1.1.1.1.1.1.1.1.1 }

pub fill_medium-requires : goal.fill_medium-requires
fill_medium-requires c =
    let a = c.args in
    medium_may_fill a.s.now a.c4.now a.c5.now a.c12.now a.start.now a.begin.now a.count.now a.sum5.now a.sum4.now a.sum12.now
    c.check_medium-medium_checked.ensures c.if-medium_checked-ne0.false (not-false _ c.if-not-columns-table.false-raw)

pub returns : goal.returns
returns c =
    let said = medium_full _ _ _ _ _ _ _ _ _ _ c.check_medium-medium_checked.ensures c.if-medium_checked-ne0.false (not-false _ c.if-not-columns-table.false-raw) (c.fill_medium.ensures.c4, (c.fill_medium.ensures.c5, (c.fill_medium.ensures.c12, (c.fill_medium.ensures.start, (c.fill_medium.ensures.begin, (c.fill_medium.ensures.count, (c.fill_medium.ensures.sum5, (c.fill_medium.ensures.sum4, c.fill_medium.ensures.sum12)))))))) in record { answer = said.0; c4 = said.1.0; c5 = said.1.1.0; c12 = said.1.1.1.0; start = said.1.1.1.1.0; begin = said.1.1.1.1.1.0; count = said.1.1.1.1.1.1.0; sum5 = said.1.1.1.1.1.1.1.0; sum4 = said.1.1.1.1.1.1.1.1.0; sum12 = said.1.1.1.1.1.1.1.1.1 }
