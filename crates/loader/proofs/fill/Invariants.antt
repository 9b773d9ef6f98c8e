-- loader::fill meets its contract: row by row, from one payment to the next.
-- The loop keeps `Filling`: `row` payments are passed, the next stands at p, and in each column the rows still to come, written from `row` on,
-- make what all rows make of the column as it was. `fill_more` is one turn of it; it rests on `pass_to` of the layout, by which C18 of a payment
-- tells where the next begins. The three numbers can be read because the payment at p stands in the file with its digits (`row`), and the
-- columns can be written because each is as long as it was and has room for n rows (`has_room`); the rest is arithmetic or found by the check.
use Rattle.loader.proofs.FillLaws.{Filling}
use Rattle.loader.proofs.fill.Given as goal

abbrev pub invariant-loop-row : goal.invariant-loop-row
invariant-loop-row l = Filling l.s l.initial.c4 l.initial.c5 l.initial.c12 l.initial.start l.c4 l.c5 l.c12 l.start l.row l.p
