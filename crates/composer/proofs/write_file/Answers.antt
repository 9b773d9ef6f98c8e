-- composer::write_file meets its contract: A, the payments and E, one behind the other.
-- There is no loop. What the three writings ask comes from `Ready`: the first line has its form and is laid out as A (`head_is`), behind it
-- stand the lines of the accepted payments (`payments_accepted`), and the figures have room in E (`writable`). Each is lent a part of the
-- output; that the output keeps its length, has room for E at the end and then begins with the file is followed in FileLaws (`first_long`,
-- `end_room`, `file_written`).
use Prim.Native.Nat.{◌+◌, ◌≤◌}
use native.Mathlib.Omega.{arith}
use mathlib.Core.Path.{sym}
use lib.ListN.{length}
use lib.Seq.{length-take-le}
use Rattle.composer.proofs.WritingLaws.{part_long}
use Rattle.composer.proofs.FileLaws.{writable, room, line_within, head_is, payments_accepted, first_long, end_room, file_written}
use Rattle.composer.proofs.write_file.Goals as goal

pub slice_bounds-lay_header-end : goal.slice_bounds-lay_header-end
slice_bounds-lay_header-end c =
    let w = line_within c.requires c.reach-e.ensures in
    sym (length-take-le _ _ (omega arith))

pub slice_bounds-lay_header-end-2 : goal.slice_bounds-lay_header-end-2
slice_bounds-lay_header-end-2 c = let r = room c.requires in omega arith

pub slice_bounds-lay_header-end-3 : goal.slice_bounds-lay_header-end-3
slice_bounds-lay_header-end-3 c =
    let r = room c.requires in
    sym (length-take-le _ c.args.out.now (omega arith))

pub lay_header-requires : goal.lay_header-requires
lay_header-requires c =
    let r = room c.requires in
    ((head_is c.requires c.reach-e.ensures).0, length-take-le _ c.args.out.now (omega arith))

pub overflow_add-e : goal.overflow_add-e
overflow_add-e c =
    let w = line_within c.requires c.reach-e.ensures in
    let g = c.well_formed.0.1 in
    omega arith

pub write_payments-end-requires : goal.write_payments-end-requires
write_payments-end-requires c =
    payments_accepted c.requires c.reach-e.ensures
    (first_long c.args.out.now c.requires c.reach-e.ensures c.lay_header.ensures)

pub overflow_add-end : goal.overflow_add-end
overflow_add-end c =
    let ending : c.write_payments-end.result + 128 ≤ length c.write_payments-end.new.out = end_room c.args.out.now c.requires c.reach-e.ensures c.lay_header.ensures c.write_payments-end.ensures.place c.write_payments-end.ensures.out in
    let h = ending in
    let o = c.write_payments-end.auto.out in
    let f = first_long c.args.out.now c.requires c.reach-e.ensures c.lay_header.ensures in
    let g = c.well_formed.1.0.0 in
    omega arith

pub slice_bounds-put_end-end : goal.slice_bounds-put_end-end
slice_bounds-put_end-end c =
    let ending : c.write_payments-end.result + 128 ≤ length c.write_payments-end.new.out = end_room c.args.out.now c.requires c.reach-e.ensures c.lay_header.ensures c.write_payments-end.ensures.place c.write_payments-end.ensures.out in
    ending

pub put_end-requires : goal.put_end-requires
put_end-requires c =
    let ending : c.write_payments-end.result + 128 ≤ length c.write_payments-end.new.out = end_room c.args.out.now c.requires c.reach-e.ensures c.lay_header.ensures c.write_payments-end.ensures.place c.write_payments-end.ensures.out in
    (part_long _ 128 _ ending, writable c.requires)

pub returns : goal.returns
returns c =
    file_written c.args.out.now c.requires c.reach-e.ensures
    c.lay_header.ensures c.write_payments-end.ensures.place
    c.write_payments-end.ensures.out c.put_end.ensures
