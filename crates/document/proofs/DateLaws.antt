-- DDMMYY and DDMMYYYY: what is written is read back, and what is read is what was written.
use Prim.Native.Nat.{ℕ, ◌+◌, ◌*◌, ◌/◌, ◌%◌, ◌^◌, ◌≤◌, ◌<◌}
use native.Mathlib.Omega.{arith}
use mathlib.Core.Path.{◌≡◌, refl, ap, ◌∙◌}
use mathlib.Core.Bool.{Bool, true, false, cond}
use lib.Dec.{leb}
use borrow.Author.Tests.{leb-true, leb-false}
use Rattle.document.specs.Calendar.{Day, century, of_ddmmyy, to_ddmmyy, of_ddmmyyyy, to_ddmmyyyy}
use Rattle.document.proofs.CalendarLaws.{IsDay, month_most, one_day}

-- ---- DDMMYY

-- a year of two digits, and what it means
century_by : (yy : ℕ) → yy < 100 → (century yy ≤ 2079) × (century yy % 100 ≡ yy)
century_by yy h = by (leb 80 yy) refl
  where
    by : (b : Bool) → leb 80 yy ≡ b → (cond b (1900 + yy) (2000 + yy) ≤ 2079) × (cond b (1900 + yy) (2000 + yy) % 100 ≡ yy)
    by true e = let l = leb-true 80 yy e in (omega arith, omega arith)
    by false e = let l = leb-false 80 yy e in (omega arith, omega arith)

pub short_fits : (d : Day) → IsDay d → to_ddmmyy d < 10 ^ 6
unfolding to_ddmmyy
short_fits d h = omega (arith, h.day_to, h.month_to, month_most d.year d.month)

pub short_back : (d : Day) → IsDay d → century (d.year % 100) ≡ d.year → of_ddmmyy (to_ddmmyy d) ≡ d
unfolding of_ddmmyy to_ddmmyy
short_back d h y =
    let n : ℕ = d.day * 10_000 + d.month * 100 + d.year % 100 in
    let yy : n % 100 ≡ d.year % 100 = omega arith in
    let hundreds : n / 100 ≡ d.day * 100 + d.month = omega arith in
    one_day (record { day = n / 10_000; month = n / 100 % 100; year = century (n % 100) }) d (omega (arith, h.month_to))
    (rw hundreds (omega (arith, h.month_to))) (ap century yy ∙ y)

pub short_there : (n : ℕ) → to_ddmmyy (of_ddmmyy n) ≡ n
unfolding of_ddmmyy to_ddmmyy
short_there n = omega (arith, (century_by (n % 100) (omega arith)).1)

pub short_year : (n : ℕ) → ((of_ddmmyy n).year < 9999) × (century ((of_ddmmyy n).year % 100) ≡ (of_ddmmyy n).year)
unfolding of_ddmmyy
short_year n = let c = century_by (n % 100) (omega arith) in (omega (arith, c.0), ap century c.1)

-- ---- DDMMYYYY

pub long_fits : (d : Day) → IsDay d → to_ddmmyyyy d < 10 ^ 8
unfolding to_ddmmyyyy
long_fits d h = omega (arith, h.day_to, h.month_to, h.year_to, month_most d.year d.month)

pub long_back : (d : Day) → IsDay d → of_ddmmyyyy (to_ddmmyyyy d) ≡ d
unfolding of_ddmmyyyy to_ddmmyyyy
long_back d h =
    let n : ℕ = d.day * 1_000_000 + d.month * 10_000 + d.year in
    one_day (record { day = n / 1_000_000; month = n / 10_000 % 100; year = n % 10_000 }) d
    (omega (arith, h.month_to, h.year_to)) (omega (arith, h.month_to, h.year_to)) (omega (arith, h.year_to))

pub long_there : (n : ℕ) → to_ddmmyyyy (of_ddmmyyyy n) ≡ n
unfolding of_ddmmyyyy to_ddmmyyyy
long_there n = omega arith
