-- layout::payment_cell meets its contract: the table of the first twelve fields, then mark and text of each part, and no field behind them.
use native.Mathlib.Omega.{arith}
use mathlib.Core.Path.{refl}
use Rattle.layout.proofs.CellLaws.{entries_of_c, none_behind_c, mark_inside, mark_of_part, text_of_part}
use Rattle.layout.proofs.payment_cell.Goals as goal

pub returns-then-i-lt-FIELDS_OF_C : goal.returns-then-i-lt-FIELDS_OF_C
returns-then-i-lt-FIELDS_OF_C c =
    entries_of_c c.args.i _ _ c.if-i-lt-FIELDS_OF_C.true refl refl

pub returns-then-i-ge-MOST_FIELDS : goal.returns-then-i-ge-MOST_FIELDS
returns-then-i-ge-MOST_FIELDS c = none_behind_c _ c.if-i-ge-MOST_FIELDS.true

pub returns-then-behind-eq0 : goal.returns-then-behind-eq0
returns-then-behind-eq0 c =
    mark_of_part c.args.i _ c.if-i-lt-FIELDS_OF_C.false c.if-i-ge-MOST_FIELDS.false c.mark_at-mark.ensures c.if-behind-eq0.true

pub overflow_add-result : goal.overflow_add-result
overflow_add-result c =
    let h = mark_inside c.args.i _ c.if-i-lt-FIELDS_OF_C.false c.if-i-ge-MOST_FIELDS.false c.mark_at-mark.ensures in
    omega arith

pub returns : goal.returns
returns c =
    text_of_part c.args.i _ c.if-i-lt-FIELDS_OF_C.false c.if-i-ge-MOST_FIELDS.false c.mark_at-mark.ensures c.if-behind-eq0.false
