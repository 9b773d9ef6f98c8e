-- lister::Pen::put_trimmed meets its contract: the field's bytes before its trailing blanks, behind a tab.
use native.Mathlib.Omega.{arith}
use mathlib.Core.Path.{subst}
use mathlib.Core.List.{◌∷◌}
use Rattle.listing.specs.Lines.{tab}
use Rattle.lister.specs.Printing.{Wrote}
use Rattle.lister.proofs.LineLaws.{width_is}
use Rattle.lister.proofs.PrintLaws.{printed_narrow, bytes_are}
use Rattle.lister.proofs.Pen.put_trimmed.Goals as goal

pub slice_bounds-put_behind_tab-end : goal.slice_bounds-put_behind_tab-end
slice_bounds-put_behind_tab-end c =
    let a = c.args in omega (arith, printed_narrow a.a a.w a.s.now (width_is a.a a.w a.s.now c.trimmed-n.ensures))

pub returns : goal.returns
returns c =
    let a = c.args in
    subst (λ bs. Wrote (tab ∷ bs) a.self.now c.put_behind_tab.new.self) (bytes_are a.a a.w a.s.now (width_is a.a a.w a.s.now c.trimmed-n.ensures))
    c.put_behind_tab.ensures
