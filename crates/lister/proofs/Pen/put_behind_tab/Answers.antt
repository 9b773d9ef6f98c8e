-- lister::Pen::put_behind_tab meets its contract: a tab, and the bytes right behind it.
use native.Mathlib.Omega.{arith}
use Rattle.lister.proofs.PrintLaws.{behind_tab_lem}
use Rattle.lister.proofs.Pen.put_behind_tab.Goals as goal

pub returns : goal.returns
returns c =
    let w = c.put.ensures in
    record { same_reference = w.same_reference; place = omega (arith, w.place); out = behind_tab_lem c.args.t.now c.requires w c.copy.ensures }
