-- loader::fill_file meets its contract: row by row, from one payment to the next, until E comes.
-- The loop keeps `FileFilling`: so many rows are written, the payments left stand at p and E behind them, and in each column the rows still to come
-- make what all rows make of the column as it was. `file_fill_more` is one turn of it; it rests on `bytes_there` of the layout, by which C18 of a payment
-- tells where the next begins. The three numbers can be read because the payment at p stands in the file with its digits (`row`), and the
-- columns can be written because each is as long as it was and has room for all rows of the file (`has_room`); the rest is arithmetic or found by the check.
use Prim.Native.Nat.{◌-◌}
use lib.ListN.{length}
use Rattle.loader.proofs.FileFillLaws.{FileFilling}
use Rattle.loader.proofs.fill_file.Given as goal

abbrev pub invariant-loop-p : goal.invariant-loop-p
invariant-loop-p l = FileFilling l.s l.begin l.row l.initial.c4 l.initial.c5 l.initial.c12 l.initial.start l.c4 l.c5 l.c12 l.start l.p l.i l.count l.sums

abbrev pub decreases-loop-p : goal.decreases-loop-p
decreases-loop-p l = length l.s - l.p
