-- loader::fill_medium meets its contract: file by file, each with its rows and its row of the table.
-- The loop keeps `MediumFilling`; `medium_more` is one turn of it, with what the fill of the file's rows ensures. The columns can be written because
-- each is as long as it was and has room for all rows (`table_roomy`); the facts about the columns' sizes stand deep in what the proof is given, so
-- they are handed over.
use Prim.Native.Nat.{◌-◌}
use lib.ListN.{length}
use Rattle.loader.proofs.MediumFillLaws.{MediumFilling}
use Rattle.loader.proofs.fill_medium.Given as goal

abbrev pub invariant-loop-p : goal.invariant-loop-p
invariant-loop-p l =
    MediumFilling l.s l.initial.c4 l.initial.c5 l.initial.c12 l.initial.start l.initial.begin l.initial.count l.initial.sum5 l.initial.sum4 l.initial.sum12 l.c4 l.c5 l.c12 l.start l.begin l.count l.sum5 l.sum4 l.sum12 l.p l.row l.file

abbrev pub decreases-loop-p : goal.decreases-loop-p
decreases-loop-p l = length l.s - l.p
