-- lister::Pen::put_part meets its contract: the mark behind a tab, and the text without its trailing blanks behind another.
-- The code looks up the cell of the mark alone; that the text stands right behind it, with the same widths in every part, is tried for all fifteen
-- in PartLaws, which says of each call that it may be made, and of both together what they print.
use native.Mathlib.Omega.{arith}
use Rattle.lister.proofs.PartLaws.{part_inside, mark_room, text_room, both_printed}
use Rattle.lister.proofs.Pen.put_part.Goals as goal

pub slice_bounds-put_behind_tab-end : goal.slice_bounds-put_behind_tab-end
slice_bounds-put_behind_tab-end c = omega (arith, part_inside _ c.requires.0 _ _ c.requires.1 c.cell_at-c.ensures)

pub put_behind_tab-requires : goal.put_behind_tab-requires
put_behind_tab-requires c = mark_room _ c.requires.0 _ _ c.requires.1 c.cell_at-c.ensures c.args.self.now c.requires.2

pub put_trimmed-requires : goal.put_trimmed-requires
put_trimmed-requires c =
    let l = c.requires.1 in
    let is = c.cell_at-c.ensures in
    (part_inside _ c.requires.0 _ _ l is, text_room _ c.requires.0 _ _ l is c.args.self.now c.requires.2 c.put_behind_tab.ensures)

pub returns : goal.returns
returns c = both_printed _ c.requires.0 _ _ c.requires.1 c.cell_at-c.ensures c.args.self.now c.requires.2 c.put_behind_tab.ensures c.put_trimmed.ensures
