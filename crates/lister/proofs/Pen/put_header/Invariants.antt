-- lister::Pen::put_header meets its contract: the letter, field by field what stands there without its trailing blanks, and the line's end.
use mathlib.Core.Bool.{true}
use Rattle.listing.specs.Records.{fields_of_header_line}
use Rattle.lister.proofs.PrintingLaws.{Printing}
use Rattle.lister.proofs.Pen.put_header.Given as goal

abbrev pub invariant-loop-i : goal.invariant-loop-i
invariant-loop-i l = Printing true fields_of_header_line l.s 0 l.fn.self l.self l.i
