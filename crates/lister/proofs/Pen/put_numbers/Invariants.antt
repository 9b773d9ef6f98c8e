-- lister::Pen::put_numbers meets its contract: number i comes next, and the numbers still to come, written there, make the output what all of them
-- make of it.
use Rattle.lister.specs.Printing.{numbers_at}
use Rattle.lister.proofs.PrintLaws.{Going, numbers_from}
use Rattle.lister.proofs.Pen.put_numbers.Given as goal

abbrev pub invariant-loop-i : goal.invariant-loop-i
invariant-loop-i l = Going (numbers_from l.s l.p) (numbers_at l.s l.p) l.fn.self l.self l.i
