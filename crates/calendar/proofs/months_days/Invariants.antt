-- calendar::months_days meets its contract: the loop's days are those of the months passed.
use Prim.Native.Nat.{◌+◌, ◌-◌, ◌≤◌}
use mathlib.Core.Path.{◌≡◌}
use Rattle.document.specs.Calendar.{months_days}
use Rattle.calendar.proofs.months_days.Given as goal

abbrev pub invariant-loop-month : goal.invariant-loop-month
invariant-loop-month l = (l.month ≤ l.months + 1) × (l.days ≡ months_days l.year (l.month - 1))
