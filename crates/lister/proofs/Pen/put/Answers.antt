-- lister::Pen::put meets its contract: a byte set is a byte written over.
use mathlib.Core.Path.{refl}
use native.Mathlib.Omega.{arith}
use Rattle.lister.proofs.PrintLaws.{set_over}
use Rattle.lister.proofs.Pen.put.Goals as goal

pub returns : goal.returns
returns c = let a = c.args in record { same_reference = refl; place = refl; out = set_over a.self.now.at a.b a.self.now.out.now (omega arith) }
