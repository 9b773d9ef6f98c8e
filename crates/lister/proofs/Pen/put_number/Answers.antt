-- lister::Pen::put_number meets its contract: what stands in the cell, which has no trailing blanks, behind a tab.
use Prim.Native.Nat.{◌+◌}
use mathlib.Core.Path.{subst, ◌∙◌}
use mathlib.Core.Bool.{false}
use mathlib.Core.List.{◌∷◌}
use Rattle.listing.specs.Lines.{tab}
use Rattle.lister.specs.Printing.{Wrote}
use Rattle.lister.proofs.PrintLaws.{bytes_are, cell_printed, cell_full}
use Rattle.lister.proofs.Pen.put_number.Goals as goal

pub returns : goal.returns
returns c =
    let a = c.args in
    let x = c.cell_at-c.result in
    let full = bytes_are (a.p + x.place) x.width a.s.now (cell_full false a.i a.s.now a.p c.cell_at-c.ensures c.requires.1) in
    subst (λ bs. Wrote (tab ∷ bs) a.self.now c.put_behind_tab.new.self) (full ∙ cell_printed false a.i a.s.now a.p c.cell_at-c.ensures)
    c.put_behind_tab.ensures
