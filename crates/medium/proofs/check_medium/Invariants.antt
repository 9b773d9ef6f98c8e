-- medium::check_medium meets its contract: file by file.
use Prim.Native.Nat.{◌-◌}
use lib.ListN.{length}
use Rattle.medium.proofs.Laws.{Going}
use Rattle.medium.proofs.check_medium.Given as goal

abbrev pub invariant-loop-file : goal.invariant-loop-file
invariant-loop-file l = Going l.s l.files l.payments l.p

abbrev pub decreases-loop-file : goal.decreases-loop-file
decreases-loop-file l = length l.s - l.p
