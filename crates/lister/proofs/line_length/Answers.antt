use native.Mathlib.Omega.{arith}
use Prim.Native.Nat.{◌+◌}
use Rattle.layout.specs.Cells.{cells_of}
use Rattle.lister.proofs.LineLaws.{Lying, lying, width_is, Counting, count_short, count_more}
use Rattle.lister.proofs.line_length.Goals as goal
use Rattle.lister.proofs.line_length.Goals.{After-cell_at-c, After-trimmed}

-- the field lies in the file
here : (c : After-cell_at-c) → Lying c.args.s.now c.args.p (cells_of c.args.head) c.loop-i.i c.cell_at-c.result
here c = lying c.args.head c.args.n c.args.s.now c.args.p c.requires _ c.loop-i-test.true _ c.cell_at-c.ensures

-- with its length added, one field more is counted
more : (c : After-trimmed) → Counting c.args.head c.args.n c.args.s.now c.args.p (c.loop-i.length + (1 + c.trimmed.result)) (c.loop-i.i + 1)
more c =
    let a = c.args in
    let l = lying a.head a.n a.s.now a.p c.requires _ c.loop-i-test.true _ c.cell_at-c.ensures in
    count_more c.loop-i.invariant l c.loop-i-test.true (width_is _ c.cell_at-c.result.width _ c.trimmed.ensures)

pub overflow_add-a : goal.overflow_add-a
overflow_add-a c = let h = here (goal.at.overflow_add-a c).After-cell_at-c in omega (arith, h.inside)

pub overflow_add-a-in-loop-i : goal.overflow_add-a-in-loop-i
overflow_add-a-in-loop-i c = let h = here (goal.at.overflow_add-a-in-loop-i c).After-cell_at-c in omega (arith, h.inside)

pub slice_bounds-trimmed-end : goal.slice_bounds-trimmed-end
slice_bounds-trimmed-end c = let h = here (goal.at.slice_bounds-trimmed-end c).After-cell_at-c in omega (arith, h.inside)

pub overflow_add-length : goal.overflow_add-length
overflow_add-length c = omega (arith, count_short (more (goal.at.overflow_add-length c).After-trimmed))

pub overflow_add-length-in-loop-i : goal.overflow_add-length-in-loop-i
overflow_add-length-in-loop-i c = omega (arith, count_short (more (goal.at.overflow_add-length-in-loop-i c).After-trimmed))

pub loop-i-preserved : goal.loop-i-preserved
loop-i-preserved c = more (goal.at.loop-i-preserved c).After-trimmed
