-- The calendar counted and the calendar stepped through agree: the day after a day has the next number, and no two days have the same.
-- The hard step is one year more: the years divided by 4, 100 and 400 each grow by one exactly at a multiple, so the count of days grows by 365
-- and the leap day (`years_step`, by the eight cases of the three divisions). From there a later year, or a later month of the same year, has
-- larger numbers, so the number tells the day (`number_one`). The day after is taken within its month, at a month's end and at a year's end
-- (`tomorrow_next`), and by induction over the steps so many days later are so many numbers more (`steps_counted`), which gives the days from
-- the first and the span of 15.
use Prim.Native.Nat.{ℕ, zero, suc, ◌+◌, ◌-◌, ◌*◌, ◌/◌, ◌%◌, ◌≤◌, ◌<◌}
use native.Mathlib.Nat.{div-add-mod', mul-add-div_right, div-eq_of_lt, mod-lt, add-zero}
use native.Mathlib.Omega.{arith}
use native.Mathlib.Decide.{dec_lt}
use mathlib.Core.Path.{◌≡◌, refl, sym, ap, ◌∙◌}
use mathlib.Core.Logic.{◌↔◌}
use mathlib.Core.Bool.{Bool, true, false, ◌&&◌, ◌||◌, not, cond}
use lib.Dec.{T, leb, ltb, eqb, leb→le, le→leb}
use borrow.Author.Tests.{ltb-true, ltb-false, eqb-true, eqb-false}
use Rattle.form.proofs.BoolLaws.{and_both, and_of}
use Rattle.document.specs.Calendar.{Day, leap, leap_day, thirty_days, month_days, is_day, tomorrow, days_after, years_days, months_days, day_number, span_days, OnOrSoonAfter, not_too_early, not_too_late, in_span}

-- ---- what a day is

pub record IsDay (d : Day) : Type 0 where
  pub year_from : 1 ≤ d.year
  pub year_to : d.year ≤ 9999
  pub month_from : 1 ≤ d.month
  pub month_to : d.month ≤ 12
  pub day_from_lem : 1 ≤ d.day
  pub day_to : d.day ≤ month_days d.year d.month

pub see_day : (d : Day) → T (is_day d) → IsDay d
unfolding is_day
see_day d t =
    let y = and_both (leb 1 d.year && leb d.year 9999) _ t in
    let md = and_both (leb 1 d.month && leb d.month 12) _ y.1 in
    let ys = and_both (leb 1 d.year) (leb d.year 9999) y.0 in
    let ms = and_both (leb 1 d.month) (leb d.month 12) md.0 in
    let ds = and_both (leb 1 d.day) (leb d.day (month_days d.year d.month)) md.1 in
    record {
      year_from = leb→le 1 d.year ys.0;
      year_to = leb→le d.year 9999 ys.1;
      month_from = leb→le 1 d.month ms.0;
      month_to = leb→le d.month 12 ms.1;
      day_from_lem = leb→le 1 d.day ds.0;
      day_to = leb→le d.day (month_days d.year d.month) ds.1;
    }

pub show_day : (d : Day) → IsDay d → T (is_day d)
unfolding is_day
show_day d h =
    and_of (leb 1 d.year && leb d.year 9999) _
    (and_of (leb 1 d.year) (leb d.year 9999) (le→leb 1 d.year h.year_from) (le→leb d.year 9999 h.year_to))
    (and_of (leb 1 d.month && leb d.month 12) _
    (and_of (leb 1 d.month) (leb d.month 12) (le→leb 1 d.month h.month_from) (le→leb d.month 12 h.month_to))
    (and_of (leb 1 d.day) (leb d.day (month_days d.year d.month)) (le→leb 1 d.day h.day_from_lem)
    (le→leb d.day (month_days d.year d.month) h.day_to)))

leap_day_most : (y : ℕ) → leap_day y ≤ 1
unfolding leap_day
leap_day_most y = by (leap y)
  where
    by : (b : Bool) → cond b 1 0 ≤ 1
    by true = omega arith
    by false = omega arith

pub month_least : (y m : ℕ) → 28 ≤ month_days y m
unfolding month_days
month_least y m = by (eqb m 2) (thirty_days m)
  where
    by : (b c : Bool) → 28 ≤ cond b (28 + leap_day y) (cond c 30 31)
    by true c = omega arith
    by false true = omega arith
    by false false = omega arith

pub month_most : (y m : ℕ) → month_days y m ≤ 31
unfolding month_days
month_most y m = by (eqb m 2) (thirty_days m)
  where
    by : (b c : Bool) → cond b (28 + leap_day y) (cond c 30 31) ≤ 31
    by true c = omega (arith, leap_day_most y)
    by false true = omega arith
    by false false = omega arith

-- ---- years

-- a year's number divided: one more where the year itself is a multiple, the same where it is none
module _ (k z : ℕ) (some : 0 < k) where
  parted : suc z / k * k + suc z % k ≡ suc z
  parted = div-add-mod' (suc z) k

  whole_part : (q r : ℕ) → r < k → q * k + r ≡ z → z / k ≡ q
  whole_part q r h e = rw (← e, mul-add-div_right some q r, div-eq_of_lt h, add-zero)

  multiple : suc z % k ≡ 0 → suc z / k ≡ z / k + 1
  multiple e = by (suc z / k) (rw e at parted)
    where
      by : (q : ℕ) → q * k + 0 ≡ suc z → q ≡ z / k + 1
      by zero h = absurd (omega arith)
      by (suc q) h = rw (whole_part q (k - 1) (omega arith) (omega arith)) (omega arith)

  no_multiple : (suc z % k ≡ 0 → ⊥) → suc z / k ≡ z / k
  no_multiple e = sym (whole_part (suc z / k) (suc z % k - 1) (omega (arith, mod-lt (suc z) some)) (omega (arith, parted)))

fewer_centuries : (z : ℕ) → z / 100 ≤ z / 4
fewer_centuries z = omega arith

-- the days of one year more
years_step : (z : ℕ) → years_days (suc z) ≡ years_days z + (365 + leap_day (suc z))
unfolding years_days leap_day
years_step z = by (eqb (y % 4) 0) (eqb (y % 100) 0) (eqb (y % 400) 0) refl refl refl
  where
    y : ℕ
    y = suc z

    by : (a b c : Bool) → eqb (y % 4) 0 ≡ a → eqb (y % 100) 0 ≡ b → eqb (y % 400) 0 ≡ c
        → 365 * y + y / 4 - y / 100 + y / 400 ≡ 365 * z + z / 4 - z / 100 + z / 400 + (365 + cond (a && (not b || c)) 1 0)
    by true true true p q r =
        rw (multiple 4 z (omega arith) (eqb-true (y % 4) 0 p), multiple 100 z (omega arith) (eqb-true (y % 100) 0 q), multiple 400 z (omega arith) (eqb-true (y % 400) 0 r)) (omega (arith, fewer_centuries z))
    by true true false p q r =
        rw (multiple 4 z (omega arith) (eqb-true (y % 4) 0 p), multiple 100 z (omega arith) (eqb-true (y % 100) 0 q), no_multiple 400 z (omega arith) (eqb-false (y % 400) 0 r)) (omega (arith, fewer_centuries z))
    by true false true p q r = absurd (eqb-false (y % 100) 0 q (let h = eqb-true (y % 400) 0 r in omega arith))
    by true false false p q r =
        rw (multiple 4 z (omega arith) (eqb-true (y % 4) 0 p), no_multiple 100 z (omega arith) (eqb-false (y % 100) 0 q), no_multiple 400 z (omega arith) (eqb-false (y % 400) 0 r)) (omega (arith, fewer_centuries z))
    by false true c p q r = absurd (eqb-false (y % 4) 0 p (let h = eqb-true (y % 100) 0 q in omega arith))
    by false false true p q r = absurd (eqb-false (y % 4) 0 p (let h = eqb-true (y % 400) 0 r in omega arith))
    by false false false p q r =
        rw (no_multiple 4 z (omega arith) (eqb-false (y % 4) 0 p), no_multiple 100 z (omega arith) (eqb-false (y % 100) 0 q), no_multiple 400 z (omega arith) (eqb-false (y % 400) 0 r)) (omega (arith, fewer_centuries z))

years_up : (n z : ℕ) → years_days z ≤ years_days (z + n)
years_up zero z = let h : z + zero ≡ z = omega arith in rw h (omega arith)
years_up (suc n) z =
    let h : z + suc n ≡ suc (z + n) = omega arith in
    rw (h, years_step (z + n)) (omega (arith, years_up n z))

years_more : (y z : ℕ) → y ≤ z → years_days y ≤ years_days z
years_more y z h = let e : y + (z - y) ≡ z = omega arith in rw e at (years_up (z - y) y)

-- ---- months

months_step : (y m : ℕ) → months_days y (suc m) ≡ months_days y m + month_days y (suc m)
unfolding months_days
months_step y m = refl

months_up : (y n m : ℕ) → months_days y m ≤ months_days y (m + n)
months_up y zero m = let h : m + zero ≡ m = omega arith in rw h (omega arith)
months_up y (suc n) m =
    let h : m + suc n ≡ suc (m + n) = omega arith in
    rw (h, months_step y (m + n)) (omega (arith, months_up y n m))

months_more : (y m n : ℕ) → m ≤ n → months_days y m ≤ months_days y n
months_more y m n h = let e : m + (n - m) ≡ n = omega arith in rw e at (months_up y (n - m) m)

-- the months of a year make up its days
year_length : (y : ℕ) → months_days y 12 ≡ 365 + leap_day y
unfolding months_days month_days
year_length y = omega arith

-- ---- a later day has a larger number

-- the days up to a day: at most those of the year, of the month
module _ (d : Day) (h : IsDay d) where
  in_month : months_days d.year (d.month - 1) + d.day ≤ months_days d.year d.month
  in_month =
      let e : d.month ≡ suc (d.month - 1) = omega (arith, h.month_from) in
      rw e (rw (months_step d.year (d.month - 1), ← e) (omega (arith, h.day_to)))

  in_year : months_days d.year (d.month - 1) + d.day ≤ 365 + leap_day d.year
  in_year = omega (arith, in_month, months_more d.year d.month 12 h.month_to, year_length d.year)

  -- a day lies in its year
  number_to : day_number d ≤ years_days d.year
  unfolding day_number
  number_to =
      let e : d.year ≡ suc (d.year - 1) = omega (arith, h.year_from) in
      let s : years_days d.year ≡ years_days (d.year - 1) + (365 + leap_day d.year) = rw (← e) at (years_step (d.year - 1)) in
      omega (arith, in_year)

  number_from : years_days (d.year - 1) < day_number d
  unfolding day_number
  number_from = omega (arith, h.day_from_lem)

pub later_year : (d e : Day) → IsDay d → IsDay e → d.year < e.year → day_number d < day_number e
later_year d e h i l = omega (arith, number_to d h, number_from e i, years_more d.year (e.year - 1) (omega arith))

pub later_month : (d e : Day) → IsDay d → IsDay e → d.year ≡ e.year → d.month < e.month → day_number d < day_number e
unfolding day_number
later_month d e h i s l =
    rw (← s) (omega (arith, in_month d h, i.day_from_lem, months_more d.year d.month (e.month - 1) (omega arith)))

pub one_day : (d e : Day) → d.day ≡ e.day → d.month ≡ e.month → d.year ≡ e.year → d ≡ e
one_day d e p q r =
    ap (λ (x : ℕ). record { day = x; month = d.month; year = d.year }) p
    ∙ ap (λ (x : ℕ). record { day = e.day; month = x; year = d.year }) q
    ∙ ap (λ (x : ℕ). record { day = e.day; month = e.month; year = x }) r

same_month : (d e : Day) → d.year ≡ e.year → d.month ≡ e.month → day_number d ≡ day_number e → d.day ≡ e.day
unfolding day_number
same_month d e y m n = let same = rw (y, m) at n in omega (arith, same)

-- no two days have the same number
pub number_one : (d e : Day) → IsDay d → IsDay e → day_number d ≡ day_number e → d ≡ e
number_one d e h i n = by (dec_lt d.year e.year) (dec_lt e.year d.year) (dec_lt d.month e.month) (dec_lt e.month d.month)
  where
    by : Dec (d.year < e.year) → Dec (e.year < d.year) → Dec (d.month < e.month) → Dec (e.month < d.month) → d ≡ e
    by (yes a) y m o = absurd (omega (arith, later_year d e h i a))
    by (no a) (yes b) m o = absurd (omega (arith, later_year e d i h b))
    by (no a) (no b) (yes c) o = absurd (omega (arith, later_month d e h i (omega arith) c))
    by (no a) (no b) (no c) (yes g) = absurd (omega (arith, later_month e d i h (omega arith) g))
    by (no a) (no b) (no c) (no g) =
        let y : d.year ≡ e.year = omega arith in
        let m : d.month ≡ e.month = omega arith in
        one_day d e (same_month d e y m n) m y

-- ---- the day after a day

-- the last day that there is
abbrev pub last_day : Day
last_day = record { day = 31; month = 12; year = 9999 }

pub record Next (d e : Day) : Type 0 where
  pub is : IsDay e
  pub number : day_number e ≡ day_number d + 1

next_in_month : (d : Day) → IsDay d → d.day < month_days d.year d.month → Next d (record { day = d.day + 1; month = d.month; year = d.year })
unfolding day_number
next_in_month d h l =
    record {
      is = record { year_from = h.year_from; year_to = h.year_to; month_from = h.month_from; month_to = h.month_to; day_from_lem = omega arith; day_to = omega arith };
      number = omega arith;
    }

next_month : (d : Day) → IsDay d → month_days d.year d.month ≤ d.day → d.month < 12 → Next d (record { day = 1; month = d.month + 1; year = d.year })
unfolding day_number
next_month d h l m =
    record {
      is =
          record {
            year_from = h.year_from;
            year_to = h.year_to;
            month_from = omega arith;
            month_to = omega arith;
            day_from_lem = omega arith;
            day_to = omega (arith, month_least d.year (d.month + 1));
          };
      number =
          let e : d.month ≡ suc (d.month - 1) = omega (arith, h.month_from) in
          let s : months_days d.year d.month ≡ months_days d.year (d.month - 1) + month_days d.year d.month = rw (← e) at (months_step d.year (d.month - 1)) in
          let f : d.month + 1 - 1 ≡ d.month = omega arith in
          rw (f, s) (omega (arith, h.day_to));
    }

-- the last day of a year, and the first of the next
year_ends : (d : Day) → IsDay d → month_days d.year d.month ≤ d.day → d.month ≡ 12 → day_number d ≡ years_days d.year
unfolding day_number
year_ends d h l m =
    let y = d.year in
    let a = rw m at l in
    let b = rw m at h.day_to in
    let e : y ≡ suc (y - 1) = omega (arith, h.year_from) in
    let s : years_days y ≡ years_days (y - 1) + (365 + leap_day y) = rw (← e) at (years_step (y - 1)) in
    rw m (omega (arith, year_length y, months_step y 11))

year_begins : (y : ℕ) → day_number (record { day = 1; month = 1; year = y + 1 }) ≡ years_days y + 1
unfolding day_number months_days
year_begins y = let f : y + 1 - 1 ≡ y = omega arith in rw f (omega arith)

last_number : day_number last_day ≡ years_days 9999
unfolding day_number years_days months_days month_days leap_day
last_number = refl

before_last : (y : ℕ) → years_days y < years_days 9999 → y + 1 ≤ 9999
before_last y l = by (dec_lt y 9999)
  where
    by : Dec (y < 9999) → y + 1 ≤ 9999
    by (yes a) = omega arith
    by (no a) = absurd (omega (arith, years_more 9999 y (omega arith)))

next_year : (d : Day) → IsDay d → day_number d < day_number last_day → month_days d.year d.month ≤ d.day → 12 ≤ d.month
    → Next d (record { day = 1; month = 1; year = d.year + 1 })
next_year d h n l m =
    let e = year_ends d h l (omega (arith, h.month_to)) in
    record {
      is =
          record {
            year_from = omega arith;
            year_to = before_last d.year (omega (arith, last_number));
            month_from = omega arith;
            month_to = omega arith;
            day_from_lem = omega arith;
            day_to = omega (arith, month_least (d.year + 1) 1);
          };
      number = rw (year_begins d.year, e);
    }

-- the day after a day is a day, and has the next number
pub tomorrow_next : (d : Day) → IsDay d → day_number d < day_number last_day → Next d (tomorrow d)
unfolding tomorrow
tomorrow_next d h n = by (ltb d.day (month_days d.year d.month)) (ltb d.month 12) refl refl
  where
    by : (a b : Bool) → ltb d.day (month_days d.year d.month) ≡ a → ltb d.month 12 ≡ b
        → Next d (cond a (record { day = d.day + 1; month = d.month; year = d.year })
        (cond b (record { day = 1; month = d.month + 1; year = d.year }) (record { day = 1; month = 1; year = d.year + 1 })))
    by true b p q = next_in_month d h (ltb-true d.day (month_days d.year d.month) p)
    by false true p q = next_month d h (ltb-false d.day (month_days d.year d.month) p) (ltb-true d.month 12 q)
    by false false p q = next_year d h n (ltb-false d.day (month_days d.year d.month) p) (ltb-false d.month 12 q)

-- so many days after a day: a day, and its number is so much larger
pub steps_counted : (n : ℕ) (d : Day) → IsDay d → day_number d + n ≤ day_number last_day → IsDay (days_after n d) × (day_number (days_after n d) ≡ day_number d + n)
unfolding days_after
steps_counted zero d h l = (h, omega arith)
steps_counted (suc n) d h l =
    let i = steps_counted n d h (omega arith) in
    let t = tomorrow_next (days_after n d) i.0 (omega (arith, i.1)) in
    (t.is, omega (arith, t.number, i.1))

pub number_most : (d : Day) → IsDay d → day_number d ≤ day_number last_day
number_most d h = omega (arith, last_number, number_to d h, years_more d.year 9999 h.year_to)

-- a day is so many steps behind another as its number is higher
pub steps_from : (n : ℕ) (d e : Day) → IsDay d → IsDay e → day_number e ≡ day_number d + n → e ≡ days_after n d
steps_from n d e h i l =
    let s = steps_counted n d h (omega (arith, number_most e i)) in
    number_one e (days_after n d) i s.0 (omega (arith, s.1))

abbrev pub first_day : Day
first_day = record { day = 1; month = 1; year = 1 }

first_day_lem : IsDay first_day
unfolding month_days
first_day_lem =
    record { year_from = omega arith; year_to = omega arith; month_from = omega arith; month_to = omega arith; day_from_lem = omega arith; day_to = omega arith }

first_number : day_number first_day ≡ 1
unfolding day_number years_days months_days
first_number = refl

-- the days are exactly those that are come to from the first, one after another, and the number of a day is its place among them
pub every_day_stepped : (d : Day) → T (is_day d) → d ≡ days_after (day_number d - 1) first_day
every_day_stepped d t =
    let h = see_day d t in
    steps_from (day_number d - 1) first_day d first_day_lem h (omega (arith, first_number, number_from d h))

pub every_step_a_day : (n : ℕ) → n < day_number last_day → T (is_day (days_after n first_day))
every_step_a_day n h = show_day (days_after n first_day) (steps_counted n first_day first_day_lem (omega (arith, first_number))).0

-- ---- the span

-- the span of a day before the year 9999 lies within the calendar
pub span_inside : (d : Day) (n : ℕ) → IsDay d → d.year < 9999 → n ≤ span_days → day_number d + n ≤ day_number last_day
span_inside d n h y l = omega (arith, last_number, number_to d h, years_more d.year 9998 (omega arith), years_step 9998)

-- counted or stepped through, the span is the same
pub span_counted : (d e : Day) → IsDay d → d.year < 9999 → IsDay e → OnOrSoonAfter d e ↔ T (in_span d e)
unfolding not_too_early not_too_late
span_counted d e h y i = (counted, stepped)
  where
    counted : OnOrSoonAfter d e → T (leb (day_number d) (day_number e) && leb (day_number e) (day_number d + span_days))
    counted s =
        let c = (steps_counted s.0 d h (span_inside d s.0 h y s.1)).1 in
        let same : day_number e ≡ day_number d + s.0 = ap day_number s.2 ∙ c in
        and_of (leb (day_number d) (day_number e)) (leb (day_number e) (day_number d + span_days)) (le→leb (day_number d) (day_number e) (omega arith))
        (le→leb (day_number e) (day_number d + span_days) (omega (arith, s.1)))

    stepped : T (leb (day_number d) (day_number e) && leb (day_number e) (day_number d + span_days)) → OnOrSoonAfter d e
    stepped t =
        let b = and_both (leb (day_number d) (day_number e)) (leb (day_number e) (day_number d + span_days)) t in
        let from = leb→le (day_number d) (day_number e) b.0 in
        let to = leb→le (day_number e) (day_number d + span_days) b.1 in
        let n : ℕ = day_number e - day_number d in
        (n, omega arith, steps_from n d e h i (omega arith))
