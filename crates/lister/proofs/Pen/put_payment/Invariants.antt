-- lister::Pen::put_payment meets its contract: the letter, the numbers, the texts, mark and text of each part, and the line's end.
-- All along `Printing` is kept: what is still to come of the line, written where the pen stands, makes the output what the whole line makes of it.
-- The numbers go off it at once, then a text in each turn of the first loop and a part in each turn of the second. What the callees ask of the file
-- beyond places is that numbers and marks stand in full width, which `Formed` says.
use mathlib.Core.Bool.{false}
use Rattle.listing.specs.Records.{fields_with}
use Rattle.lister.proofs.PrintingLaws.{Printing}
use Rattle.lister.proofs.Pen.put_payment.Given as goal

abbrev pub invariant-loop-i : goal.invariant-loop-i
invariant-loop-i l = Printing false (fields_with l.k) l.s l.p l.fn.self l.self l.i

abbrev pub invariant-loop-part : goal.invariant-loop-part
invariant-loop-part l = Printing false (fields_with l.k) l.s l.p l.fn.self l.self (fields_with l.part)
