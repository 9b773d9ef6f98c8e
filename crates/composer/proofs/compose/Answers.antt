-- composer::compose meets its contract: the listing is read, then the room tested, then the file written.
use native.Mathlib.Omega.{arith}
use Rattle.composer.proofs.CallLaws.{call_refused, call_told, call_short, call_ready, call_written}
use Rattle.composer.proofs.compose.Goals as goal

pub returns-in-Err : goal.returns-in-Err
returns-in-Err c =
    let said = call_refused _ _ c.read_listing.ensures c.in-Err.is c.into.ensures
    c.refused.ensures in record { answer = said.0; out = said.1 }

pub overflow_add-length : goal.overflow_add-length
overflow_add-length c =
    let t = call_told _ c.args.out.now c.read_listing.ensures c.in-Ok.is in
    let s = t.small in
    omega arith

pub returns-then-out-length : goal.returns-then-out-length
returns-then-out-length c =
    let said = call_short _ _ c.read_listing.ensures c.in-Ok.is c.if-out-length.true c.refuse.ensures
    c.refused-then-out-length.ensures in record { answer = said.0; out = said.1 }

pub write_file-requires : goal.write_file-requires
write_file-requires c =
    call_ready _ c.args.out.now c.read_listing.ensures c.in-Ok.is c.if-out-length.false

pub returns : goal.returns
returns c =
    let said = call_written _ _ c.read_listing.ensures c.in-Ok.is c.if-out-length.false c.write_file.ensures in record { answer = said.0; out = said.1 }
