-- composer::line::rest_of_line meets its contract: the fields before the byte looked at, and those from there on, make up all fields.
use Prim.Native.Nat.{◌-◌, ◌≤◌}
use lib.ListN.{length}
use Rattle.composer.proofs.ByteLaws.{Resting}
use Rattle.composer.proofs.line.rest_of_line.Given as goal

abbrev pub invariant-loop-i-2 : goal.invariant-loop-i-2
invariant-loop-i-2 l = Resting l.l l.p l.i l.fields × (l.initial.i ≤ l.i)

abbrev pub decreases-loop-i-2 : goal.decreases-loop-i-2
decreases-loop-i-2 l = length l.l - l.i

abbrev pub invariant-loop-i : goal.invariant-loop-i
invariant-loop-i l = Resting l.l l.p l.i l.fields

abbrev pub decreases-loop-i : goal.decreases-loop-i
decreases-loop-i l = length l.l - l.i
