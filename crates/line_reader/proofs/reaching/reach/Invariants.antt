-- line_reader::reaching::reach meets its contract: from i on the first z stands at the same place as from p on, as long as none was passed.
use Prim.Native.Nat.{◌+◌, ◌-◌}
use mathlib.Core.Path.{◌≡◌}
use lib.ListN.{length, drop}
use Rattle.line_reader.specs.Reaching.{reach}
use Rattle.line_reader.proofs.reaching.reach.Given as goal

abbrev pub invariant-loop-i : goal.invariant-loop-i
invariant-loop-i l = l.p + reach l.z (drop l.p l.s) ≡ l.i + reach l.z (drop l.i l.s)

abbrev pub decreases-loop-i : goal.decreases-loop-i
decreases-loop-i l = length l.s - l.i
