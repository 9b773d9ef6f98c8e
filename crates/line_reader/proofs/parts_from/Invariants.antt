-- line_reader::parts_from meets its contract: what follows, together with the parts passed, is all parts, and where it is none there are none.
use Prim.Native.Nat.{◌-◌, ◌≤◌}
use lib.ListN.{length}
use Rattle.line_reader.proofs.SeenLaws.{Followed}
use Rattle.line_reader.proofs.parts_from.Given as goal

abbrev pub invariant-loop-q : goal.invariant-loop-q
invariant-loop-q l = (l.k ≤ l.q) × Followed l.l l.start l.q l.k l.room

abbrev pub decreases-loop-q : goal.decreases-loop-q
decreases-loop-q l = length l.l - l.q
