-- Days counted are few: at most 366 a year and 31 a month, so that the sums of the code cannot wrap. The cases of a date in code and rules.
use Prim.Native.Nat.{ℕ, zero, suc, ◌+◌, ◌-◌, ◌*◌, ◌≤◌}
use native.Mathlib.Omega.{arith}
use mathlib.Core.Path.{◌≡◌, refl}
use Rattle.document.specs.Calendar.{Day, years_days, months_days, day_number, DateCase, in_order, no_such_day, too_early, too_late}
use Rattle.document.proofs.CalendarLaws.{month_most}
use Rattle.calendar.specs.declared.DateCase as calendar
use Rattle.calendar.specs.declared.DateCase.TheVariants.{InOrder, NoSuchDay, TooEarly, TooLate}
use Rattle.calendar.specs.Days.{case_from}

pub years_most : (y : ℕ) → years_days y ≤ 366 * y
unfolding years_days
years_most y = omega arith

pub months_most : (y m : ℕ) → months_days y m ≤ 31 * m
unfolding months_days
months_most y zero = omega arith
months_most y (suc m) = omega (arith, months_most y m, month_most y (suc m))

pub number_most : (d : Day) → day_number d ≤ 366 * d.year + 31 * d.month + d.day
unfolding day_number
number_most d = omega (arith, years_most (d.year - 1), months_most d.year (d.month - 1))

-- ---- the cases of a date

-- the case of the rules that a case of the code is
abbrev pub case_of : calendar.DateCase → DateCase
case_of InOrder = in_order
case_of NoSuchDay = no_such_day
case_of TooEarly = too_early
case_of TooLate = too_late

-- there and back
pub case_back : (c : DateCase) → case_of (case_from c) ≡ c
case_back in_order = refl
case_back no_such_day = refl
case_back too_early = refl
case_back too_late = refl
