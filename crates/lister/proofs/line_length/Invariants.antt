-- lister::line_length meets its contract: field by field, each as long as it is without its trailing blanks.
use Rattle.lister.proofs.LineLaws.{Counting}
use Rattle.lister.proofs.line_length.Given as goal

abbrev pub invariant-loop-i : goal.invariant-loop-i
invariant-loop-i l = Counting l.head l.n l.s l.p l.length l.i
