-- lister::list meets its contract: the check's refusal, no room, or the whole listing.
use Rattle.lister.proofs.ListLaws.{list_refused, list_no_room, list_room, list_full}
use Rattle.lister.proofs.list.Goals as goal

pub returns-then-checked-ne0 : goal.returns-then-checked-ne0
returns-then-checked-ne0 c =
    let said = list_refused _ _ c.check-checked.ensures c.if-checked-ne0.true c.refused.ensures in record { answer = said.0; out = said.1 }

pub returns-then-not-has_room : goal.returns-then-not-has_room
returns-then-not-has_room c =
    let said = list_no_room _ _ c.check-checked.ensures c.if-checked-ne0.false c.has_room.ensures c.if-not-has_room.true c.refuse.ensures
    c.refused-then-not-has_room.ensures in record { answer = said.0; out = said.1 }

pub returns : goal.returns
returns c =
    let room = list_room _ c.args.out.now c.check-checked.ensures c.if-checked-ne0.false c.has_room.ensures c.if-not-has_room.false in
    let e = c.print_listing-length.ensures in
    let said = list_full _ _ c.check-checked.ensures c.if-checked-ne0.false room e.length e.out in record { answer = said.0; out = said.1 }
