-- layout::header_cell meets its contract: the table of A, and no field behind it.
use mathlib.Core.Path.{refl}
use Rattle.layout.proofs.CellLaws.{entries_of_a, none_behind_a}
use Rattle.layout.proofs.header_cell.Goals as goal

pub returns-then-i-ge-FIELDS_OF_A : goal.returns-then-i-ge-FIELDS_OF_A
returns-then-i-ge-FIELDS_OF_A c = none_behind_a _ c.if-i-ge-FIELDS_OF_A.true

pub returns : goal.returns
returns c =
    entries_of_a c.args.i _ _ c.if-i-ge-FIELDS_OF_A.false refl refl
