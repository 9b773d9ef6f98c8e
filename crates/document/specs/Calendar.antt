-- Days of the Gregorian calendar, years 0001 to 9999: which days there are, the day after a day, the days counted from the first, and what a date
-- of a file can be.
use Rattle.std.specs.Prelude.{ℕ, zero, suc, ◌+◌, ◌-◌, ◌*◌, ◌/◌, ◌%◌, ◌≤◌, ◌≡◌, Bool, false, not, ◌&&◌, ◌||◌, cond, T, leb, ltb, eqb}

pub record Day : Type 0 where
  pub day : ℕ
  pub month : ℕ
  pub year : ℕ

-- every fourth year is a leap year, but of those that end a century only every fourth
abbrev pub leap : ℕ → Bool
leap y = eqb (y % 4) 0 && (not (eqb (y % 100) 0) || eqb (y % 400) 0)

unfoldable pub leap_day : ℕ → ℕ
leap_day y = cond (leap y) 1 0

-- April, June, September and November
abbrev pub thirty_days : ℕ → Bool
thirty_days m = eqb m 4 || (eqb m 6 || (eqb m 9 || eqb m 11))

unfoldable pub month_days : ℕ → ℕ → ℕ
month_days y m = cond (eqb m 2) (28 + leap_day y) (cond (thirty_days m) 30 31)

unfoldable pub is_day : Day → Bool
is_day d =
    (leb 1 d.year && leb d.year 9999)
    && ((leb 1 d.month && leb d.month 12) && (leb 1 d.day && leb d.day (month_days d.year d.month)))

-- ---- one day after another

unfoldable pub tomorrow : Day → Day
tomorrow d =
    cond (ltb d.day (month_days d.year d.month)) (record { day = d.day + 1; month = d.month; year = d.year })
    (cond (ltb d.month 12) (record { day = 1; month = d.month + 1; year = d.year }) (record { day = 1; month = 1; year = d.year + 1 }))

unfoldable pub days_after : ℕ → Day → Day
days_after zero d = d
days_after (suc n) d = tomorrow (days_after n d)

-- ---- days counted

-- the days of so many years, from the year 1 on
unfoldable pub years_days : ℕ → ℕ
years_days y = 365 * y + y / 4 - y / 100 + y / 400

-- the days of the first m months of a year
unfoldable pub months_days : ℕ → ℕ → ℕ
months_days y zero = 0
months_days y (suc m) = months_days y m + month_days y (suc m)

-- 1 for the first day of the year 1, and one more each day
unfoldable pub day_number : Day → ℕ
day_number d = years_days (d.year - 1) + months_days d.year (d.month - 1) + d.day

-- ---- the span between creation and execution

-- from creation to execution at most so many calendar days
abbrev pub span_days : ℕ
span_days = 15

-- the second day is the first, or comes up to `span_days` steps after it
abbrev pub OnOrSoonAfter : Day → Day → Type 0
OnOrSoonAfter d e = (n : ℕ) × (n ≤ span_days) × (e ≡ days_after n d)

-- the order of days: by the year, in one year by the month, in one month by the day
abbrev pub before : Day → Day → Bool
before d e =
    ltb d.year e.year
    || (eqb d.year e.year && (ltb d.month e.month || (eqb d.month e.month && ltb d.day e.day)))

-- the second day lies before the first
abbrev pub TooEarly : Day → Day → Type 0
TooEarly made d = T (before d made)

-- the second day lies behind the last day of the span, to which `span_days` steps lead from the first
abbrev pub TooLate : Day → Day → Type 0
TooLate made d = T (before (days_after span_days made) d)

-- counted: the number of the second day is no less than that of the first
unfoldable pub not_too_early : Day → Day → Bool
not_too_early made d = leb (day_number made) (day_number d)

-- counted: the number of the second day is at most `span_days` more than that of the first
unfoldable pub not_too_late : Day → Day → Bool
not_too_late made d = leb (day_number d) (day_number made + span_days)

-- counted: both
abbrev pub in_span : Day → Day → Bool
in_span made d = not_too_early made d && not_too_late made d

-- ---- what a date can be

pub data DateCase : Type 0 where
  in_order no_such_day too_early too_late : DateCase

-- when a date of execution is which, where the file was made on the day `made`
abbrev pub IsCase : Day → Day → DateCase → Type 0
IsCase made d in_order = T (is_day d) × OnOrSoonAfter made d
IsCase made d no_such_day = is_day d ≡ false
IsCase made d too_early = T (is_day d) × TooEarly made d
IsCase made d too_late = T (is_day d) × TooLate made d

-- which it is, counted
unfoldable pub date_case : Day → Day → DateCase
date_case made d = cond (is_day d) (cond (not_too_early made d) (cond (not_too_late made d) in_order too_late) too_early) no_such_day

-- ---- DDMMYY and DDMMYYYY as numbers

-- YY from 80 means 19YY, below 80 it means 20YY
abbrev pub century : ℕ → ℕ
century yy = cond (leb 80 yy) (1900 + yy) (2000 + yy)

unfoldable pub of_ddmmyy : ℕ → Day
of_ddmmyy n = record { day = n / 10_000; month = n / 100 % 100; year = century (n % 100) }

unfoldable pub to_ddmmyy : Day → ℕ
to_ddmmyy d = d.day * 10_000 + d.month * 100 + d.year % 100

unfoldable pub of_ddmmyyyy : ℕ → Day
of_ddmmyyyy n = record { day = n / 1_000_000; month = n / 10_000 % 100; year = n % 10_000 }

unfoldable pub to_ddmmyyyy : Day → ℕ
to_ddmmyyyy d = d.day * 1_000_000 + d.month * 10_000 + d.year
