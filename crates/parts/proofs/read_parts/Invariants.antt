-- parts::read_parts meets its contract: whenever a turn begins, the parts that are left, from its place on, give what all parts give.
-- A turn goes along the steps of one part (`part_steps`): the closing blanks, the mark and the text. Mark and text are read in the slice that is
-- the part, and are fields of the file, where their refusals are named (`mark_refused`, `mark_passed`, `words_refused`, `words_passed`). No place
-- wraps, because a field that was read lies in the file (`mark_inside`, `words_inside`); the other facts are found by the check.
use Rattle.std.proofs.Common.{◌≡◌, ◌-◌}
use Rattle.diskette.specs.Fields.{parts}
use Rattle.parts.proofs.Steps.{ends}
use Rattle.parts.proofs.read_parts.Given as goal

abbrev pub invariant-loop-i : goal.invariant-loop-i
invariant-loop-i l = ends (parts l.k 0 15) l.s l.at ≡ ends (parts (l.k - l.i) l.i l.room) l.s l.p
