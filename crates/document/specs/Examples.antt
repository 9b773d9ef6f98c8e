-- Worked values on both sides of each line that a definition draws: one list of what is so or not, one of what a date is, each with one claim.
use Rattle.std.specs.Prelude.{ℕ, ◌≡◌, refl, Bool, true, false, List, [], ◌∷◌, map}
use Rattle.form.specs.Kind.{every, one, among}
use Rattle.document.specs.Signs.{ascii, sign, not_all_blank}
use Rattle.document.specs.Calendar.{Day, leap_day, month_days, is_day, years_days, months_days, day_number, not_too_early, not_too_late, DateCase, in_order, no_such_day, too_early, too_late, date_case, of_ddmmyy}
use Rattle.document.specs.Rules.{file_kinds, sending_bank_ok, bank_code_ok, customer_ok, not_zero, key_ok, supplement_ok}

-- what a definition says of a value, and what it is to say
pub record Example : Type 0 where
  pub says : Bool
  pub wanted : Bool

abbrev yes : Bool → Example
yes b = record { says = b; wanted = true }

abbrev no : Bool → Example
no b = record { says = b; wanted = false }

abbrev on : ℕ → ℕ → ℕ → Day
on d m y = record { day = d; month = m; year = y }

unfoldable pub examples : List Example
unfolding leap_day month_days is_day
examples =
    -- signs: each special sign and umlaut, the bytes beside them
    yes (every sign (ascii ".,&-/+*$%[\\]~ 09AZ"))
    ∷ no (sign 0x7D)
    ∷ no (sign 0x40)
    ∷ no (sign 0x61)
    ∷ no (not_all_blank (ascii "  "))
    -- the four kinds of file, and A5 by them
    ∷ yes (every (among file_kinds) (ascii "GK" ∷ ascii "LK" ∷ ascii "GB" ∷ ascii "LB" ∷ []))
    ∷ no (among file_kinds (ascii "GG"))
    ∷ no (sending_bank_ok (ascii "LK") 1)
    ∷ yes (sending_bank_ok (ascii "LB") 1)
    -- a bank code, an internal customer number, an amount
    ∷ no (bank_code_ok 9_999_999)
    ∷ yes (bank_code_ok 10_000_000)
    ∷ yes (bank_code_ok 89_999_999)
    ∷ no (bank_code_ok 90_000_000)
    ∷ yes (customer_ok 999_999_999_990)
    ∷ no (customer_ok 1_000_000_000_000)
    ∷ no (customer_ok 1)
    ∷ no (not_zero 0)
    -- keys of credits and of debits
    ∷ yes (every (key_ok (ascii "GB")) (51 ∷ 53 ∷ 54 ∷ 56 ∷ []))
    ∷ no (key_ok (ascii "GB") 5)
    ∷ yes (every (key_ok (ascii "LK")) (4 ∷ 5 ∷ []))
    ∷ no (key_ok (ascii "LK") 51)
    -- supplements of each key, and their neighbours
    ∷ yes (every (λ key. every (supplement_ok key) (0 ∷ 888 ∷ [])) (4 ∷ 51 ∷ 53 ∷ []))
    ∷ no (one (λ key. one (supplement_ok key) (1 ∷ 5 ∷ 6 ∷ 15 ∷ 51 ∷ 887 ∷ 889 ∷ [])) (4 ∷ 51 ∷ 53 ∷ []))
    ∷ yes (every (supplement_ok 5) (0 ∷ 888 ∷ 5 ∷ 6 ∷ 15 ∷ []))
    ∷ no (one (supplement_ok 5) (1 ∷ 4 ∷ 7 ∷ 14 ∷ 16 ∷ 51 ∷ 887 ∷ 889 ∷ []))
    ∷ yes (supplement_ok 56 0)
    ∷ no (one (supplement_ok 56) (1 ∷ 888 ∷ []))
    ∷ yes (every (supplement_ok 54) (0 ∷ 1 ∷ 5 ∷ 51 ∷ 888 ∷ 999 ∷ []))
    ∷ no (supplement_ok 55 0)
    -- days: of November, of a century's end, of the year 0, of the last year
    ∷ yes (is_day (on 30 11 2004))
    ∷ no (is_day (on 31 11 2004))
    ∷ yes (is_day (on 29 2 2000))
    ∷ no (is_day (on 29 2 1900))
    ∷ no (is_day (on 1 1 0))
    ∷ yes (is_day (on 31 12 9999))
    ∷ []

pub examples_hold : map (λ (e : Example). e.says) examples ≡ map (λ (e : Example). e.wanted) examples
unfolding examples
examples_hold = refl

-- ---- what a date is

-- a day of creation, a day of execution, and what the second is to be
pub record DateExample : Type 0 where
  pub made : Day
  pub execution : Day
  pub wanted : DateCase

abbrev executed : Day → Day → DateCase → DateExample
executed made execution wanted = record { made = made; execution = execution; wanted = wanted }

unfoldable pub date_examples : List DateExample
unfolding of_ddmmyy
date_examples =
    -- the day before, the day itself, 15 and 16 days after it
    executed (on 15 3 2004) (on 14 3 2004) too_early
    ∷ executed (on 15 3 2004) (on 15 3 2004) in_order
    ∷ executed (on 15 3 2004) (on 30 3 2004) in_order
    ∷ executed (on 15 3 2004) (on 31 3 2004) too_late
    -- 29 February of a leap year, and of years that end a century
    ∷ executed (on 15 3 2004) (on 29 2 2000) too_early
    ∷ executed (on 15 3 2004) (on 29 2 1900) no_such_day
    ∷ executed (on 15 3 2004) (on 29 2 2100) no_such_day
    ∷ executed (on 28 2 2000) (on 29 2 2000) in_order
    -- the year 0, which has no day, and the first and the last year
    ∷ executed (on 15 3 2004) (on 15 3 0) no_such_day
    ∷ executed (on 15 3 2004) (on 1 1 1) too_early
    ∷ executed (on 15 3 2004) (on 31 12 9999) too_late
    -- across a year's end and the century's pivot
    ∷ executed (of_ddmmyy 311299) (on 1 1 2000) in_order
    ∷ executed (of_ddmmyy 311279) (on 15 1 2080) in_order
    ∷ executed (of_ddmmyy 311279) (on 16 1 2080) too_late
    ∷ executed (of_ddmmyy 10180) (on 16 1 1980) in_order
    ∷ executed (of_ddmmyy 10180) (on 1 1 2080) too_late
    ∷ []

pub date_examples_hold : map (λ (x : DateExample). date_case x.made x.execution) date_examples ≡ map (λ (x : DateExample). x.wanted) date_examples
unfolding date_examples leap_day month_days is_day years_days months_days day_number not_too_early not_too_late date_case
date_examples_hold = refl
