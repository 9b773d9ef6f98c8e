-- layout::mark_at meets its contract: no mark behind the last part, the marks of the second section, and at most four in each later one.
use native.Mathlib.Omega.{arith}
use Rattle.layout.proofs.CellLaws.{no_mark, marks_of_second, marks_behind}
use Rattle.layout.proofs.mark_at.Goals as goal

pub returns-then-i-ge-MOST_PARTS : goal.returns-then-i-ge-MOST_PARTS
returns-then-i-ge-MOST_PARTS c = no_mark c.args.i c.if-i-ge-MOST_PARTS.true

pub returns-then-i-lt2 : goal.returns-then-i-lt2
returns-then-i-lt2 c = marks_of_second c.args.i c.if-i-lt2.true

pub returns : goal.returns
returns c = marks_behind c.args.i c.if-i-lt2.false (let h = c.if-i-ge-MOST_PARTS.false in omega arith)
