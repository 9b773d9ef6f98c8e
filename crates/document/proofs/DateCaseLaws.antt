-- What a date of execution can be: counted, it is in one of the four cases exactly when it is so in the order of days and by steps from day to day.
-- By the numbers of the two days it is told at once which case it is (`case_early` and its fellows). The order of days is that of their numbers
-- (`before_counted`, by the first of year, month and day that differs). So too early and too late are comparisons of numbers (`early_counted`,
-- `late_counted`), which with `span_counted` gives each of the four cases. In steps: a day is so many steps behind another as its number is
-- higher (`steps_counted`); no step leads from behind the last day back to a day (`steps_behind`), so that however many steps are spoken of, they
-- are counted by numbers (`steps_to_day`).
use Prim.Native.Nat.{ℕ, zero, suc, ◌+◌, ◌-◌, ◌≤◌, ◌<◌}
use native.Mathlib.Omega.{arith}
use native.Mathlib.Decide.{dec_lt}
use mathlib.Core.Path.{◌≡◌, refl, sym, ap, subst, ◌∙◌}
use mathlib.Core.Logic.{◌↔◌, ◌⊎◌, inl, inr, ⊎_elim}
use mathlib.Core.Bool.{Bool, true, false, cond}
use mathlib.Core.Option.{some}
use lib.Dec.{T, ltb, leb→le}
use borrow.Author.Tests.{ltb-true, leb-false, lt-ltb, le-ltb, le-leb, lt-leb, eq-eqb, ne_eqb}
use Rattle.form.proofs.BoolLaws.{is_true, T_of, and_both, and_of}
use Rattle.document.specs.Calendar.{Day, is_day, month_days, tomorrow, days_after, day_number, span_days, OnOrSoonAfter, before, TooEarly, TooLate, not_too_early, not_too_late, DateCase, in_order, no_such_day, too_early, too_late, IsCase, date_case}
use Rattle.document.specs.Rules.{LegalExecution}
use Rattle.document.proofs.CalendarLaws.{IsDay, see_day, later_year, later_month, number_one, number_most, last_day, steps_counted, steps_from, span_inside, span_counted}

-- ---- what a date is, by the numbers of the two days

module _ (made d : Day) where
  pub case_no_day : is_day d ≡ false → date_case made d ≡ no_such_day
  unfolding date_case
  case_no_day e = rw e

  pub case_early : is_day d ≡ true → day_number d < day_number made → date_case made d ≡ too_early
  unfolding date_case not_too_early
  case_early e l = rw (e, lt-leb (day_number made) (day_number d) l)

  pub case_late : is_day d ≡ true → day_number made ≤ day_number d → day_number made + span_days < day_number d → date_case made d ≡ too_late
  unfolding date_case not_too_early not_too_late
  case_late e from l = rw (e, le-leb (day_number made) (day_number d) from, lt-leb (day_number d) (day_number made + span_days) l)

  pub case_in_order : is_day d ≡ true → day_number made ≤ day_number d → day_number d ≤ day_number made + span_days → date_case made d ≡ in_order
  unfolding date_case not_too_early not_too_late
  case_in_order e from to = rw (e, le-leb (day_number made) (day_number d) from, le-leb (day_number d) (day_number made + span_days) to)

-- ---- the order of days is that of their numbers

in_one_month : (d e : Day) → d.year ≡ e.year → d.month ≡ e.month → ltb d.day e.day ≡ ltb (day_number d) (day_number e)
unfolding day_number
in_one_month d e y m = by (dec_lt d.day e.day)
  where
    ahead : day_number d + e.day ≡ day_number e + d.day
    ahead = rw (y, m) (omega arith)

    by : Dec (d.day < e.day) → ltb d.day e.day ≡ ltb (day_number d) (day_number e)
    by (yes a) = rw (lt-ltb d.day e.day a, lt-ltb (day_number d) (day_number e) (omega (arith, ahead)))
    by (no a) = rw (le-ltb d.day e.day (omega arith), le-ltb (day_number d) (day_number e) (omega (arith, ahead)))

pub before_counted : (d e : Day) → IsDay d → IsDay e → before d e ≡ ltb (day_number d) (day_number e)
before_counted d e h i = by (dec_lt d.year e.year) (dec_lt e.year d.year) (dec_lt d.month e.month) (dec_lt e.month d.month)
  where
    by : Dec (d.year < e.year) → Dec (e.year < d.year) → Dec (d.month < e.month) → Dec (e.month < d.month) → before d e ≡ ltb (day_number d) (day_number e)
    by (yes a) y m o = rw (lt-ltb d.year e.year a, lt-ltb (day_number d) (day_number e) (later_year d e h i a))
    by (no a) (yes b) m o =
        rw (
          le-ltb d.year e.year (omega arith),
          ne_eqb d.year e.year (λ x. omega arith),
          le-ltb (day_number d) (day_number e) (omega (arith, later_year e d i h b)),
        )
    by (no a) (no b) (yes c) o =
        let y : d.year ≡ e.year = omega arith in
        rw (
          le-ltb d.year e.year (omega arith),
          eq-eqb d.year e.year y,
          lt-ltb d.month e.month c,
          lt-ltb (day_number d) (day_number e) (later_month d e h i y c),
        )
    by (no a) (no b) (no c) (yes g) =
        let y : d.year ≡ e.year = omega arith in
        rw (
          le-ltb d.year e.year (omega arith),
          eq-eqb d.year e.year y,
          le-ltb d.month e.month (omega arith),
          ne_eqb d.month e.month (λ x. omega arith),
          le-ltb (day_number d) (day_number e) (omega (arith, later_month e d i h (sym y) g)),
        )
    by (no a) (no b) (no c) (no g) =
        let y : d.year ≡ e.year = omega arith in
        let m : d.month ≡ e.month = omega arith in
        rw (le-ltb d.year e.year (omega arith), eq-eqb d.year e.year y, le-ltb d.month e.month (omega arith), eq-eqb d.month e.month m)
        (in_one_month d e y m)

-- one day lies before another exactly when its number is lower
before_lower : (d e : Day) → IsDay d → IsDay e → T (before d e) ↔ (day_number d < day_number e)
before_lower d e h i =
    let c = before_counted d e h i in
    (λ t. ltb-true (day_number d) (day_number e) (sym c ∙ is_true (before d e) t), λ l. T_of (c ∙ lt-ltb (day_number d) (day_number e) l))

-- ---- too early and too late, counted

module _ (made d : Day) (h : IsDay made) (y : made.year < 9999) (i : IsDay d) where
  early_counted : TooEarly made d ↔ (not_too_early made d ≡ false)
  unfolding not_too_early
  early_counted =
      let b = before_lower d made i h in
      (λ t. lt-leb (day_number made) (day_number d) (b.0 t), λ e. b.1 (leb-false (day_number made) (day_number d) e))

  late_higher : TooLate made d ↔ (day_number made + span_days < day_number d)
  late_higher =
      let s = steps_counted span_days made h (span_inside made span_days h y (omega arith)) in
      let b = before_lower (days_after span_days made) d s.0 i in
      (λ t. omega (arith, b.0 t, s.1), λ l. b.1 (omega (arith, s.1)))

  late_counted : TooLate made d ↔ (not_too_late made d ≡ false)
  unfolding not_too_late
  late_counted = (
    λ t. lt-leb (day_number d) (day_number made + span_days) (late_higher.0 t),
    λ e. late_higher.1 (leb-false (day_number d) (day_number made + span_days) e),
  )

  late_not_early : TooLate made d → not_too_early made d ≡ true
  unfolding not_too_early
  late_not_early t = le-leb (day_number made) (day_number d) (omega (arith, late_higher.0 t))

  span_both : OnOrSoonAfter made d → T (not_too_early made d) × T (not_too_late made d)
  span_both s = and_both (not_too_early made d) (not_too_late made d) ((span_counted made d h y i).0 s)

  -- no day is both too early and too late
  pub never_early_and_late : TooEarly made d → TooLate made d → ⊥
  never_early_and_late a b = subst T (early_counted.0 a) (T_of (late_not_early b))

  -- and what is not in the span is one of the two
  pub outside_span : (OnOrSoonAfter made d → ⊥) ↔ (TooEarly made d ⊎ TooLate made d)
  outside_span = (
    by (not_too_early made d) (not_too_late made d) refl refl,
    ⊎_elim (λ a s. subst T (early_counted.0 a) (span_both s).0) (λ b s. subst T (late_counted.0 b) (span_both s).1),
  )
    where
      by : (early late : Bool) → not_too_early made d ≡ early → not_too_late made d ≡ late → (OnOrSoonAfter made d → ⊥) → TooEarly made d ⊎ TooLate made d
      by false z p q n = inl (early_counted.1 p)
      by true false p q n = inr (late_counted.1 q)
      by true true p q n = absurd (n ((span_counted made d h y i).1 (and_of (not_too_early made d) (not_too_late made d) (T_of p) (T_of q))))

-- ---- each case exactly when

module _ (made d : Day) (h : IsDay made) (y : made.year < 9999) where
  is_its_case : IsCase made d (date_case made d)
  unfolding date_case
  is_its_case = by (is_day d) (not_too_early made d) (not_too_late made d) refl refl refl
    where
      by : (b early late : Bool) → is_day d ≡ b → not_too_early made d ≡ early → not_too_late made d ≡ late
          → IsCase made d (cond b (cond early (cond late in_order too_late) too_early) no_such_day)
      by false x z p q r = p
      by true false z p q r = let t = T_of p in (t, (early_counted made d h y (see_day d t)).1 q)
      by true true false p q r = let t = T_of p in (t, (late_counted made d h y (see_day d t)).1 r)
      by true true true p q r =
          let t = T_of p in
          (t, (span_counted made d h y (see_day d t)).1 (and_of (not_too_early made d) (not_too_late made d) (T_of q) (T_of r)))

  only_its_case : (c : DateCase) → IsCase made d c → date_case made d ≡ c
  unfolding not_too_early not_too_late
  only_its_case in_order x =
      let b = span_both made d h y (see_day d x.0) x.1 in
      case_in_order made d (is_true (is_day d) x.0) (leb→le (day_number made) (day_number d) b.0) (leb→le (day_number d) (day_number made + span_days) b.1)
  only_its_case no_such_day x = case_no_day made d x
  only_its_case too_early x = case_early made d (is_true (is_day d) x.0) ((before_lower d made (see_day d x.0) h).0 x.1)
  only_its_case too_late x =
      let l = (late_higher made d h y (see_day d x.0)).0 x.1 in
      case_late made d (is_true (is_day d) x.0) (omega arith) l

pub date_cases : (made d : Day) → T (is_day made) → made.year < 9999 → (c : DateCase) → (date_case made d ≡ c) ↔ IsCase made d c
date_cases made d h y c = (λ e. subst (IsCase made d) e (is_its_case made d (see_day made h) y), only_its_case made d (see_day made h) y c)

-- the day of execution is legal exactly in the case "in order"
pub legal_in_order : (made d : Day) → T (is_day made) → made.year < 9999 → LegalExecution made (some d) ↔ (date_case made d ≡ in_order)
legal_in_order made d h y = let c = date_cases made d h y in_order in (c.1, c.0)

-- ---- too early and too late, by steps

behind_on : (d : Day) → 9999 < d.year → 9999 < (tomorrow d).year
unfolding tomorrow
behind_on d p = by (ltb d.day (month_days d.year d.month)) (ltb d.month 12)
  where
    by : (a b : Bool)
        → 9999 < (cond {A = Day} a (record { day = d.day + 1; month = d.month; year = d.year })
        (cond b (record { day = 1; month = d.month + 1; year = d.year }) (record { day = 1; month = 1; year = d.year + 1 }))).year
    by true b = p
    by false true = p
    by false false = omega arith

last_day_lem : IsDay last_day
unfolding month_days
last_day_lem =
    record { year_from = omega arith; year_to = omega arith; month_from = omega arith; month_to = omega arith; day_from_lem = omega arith; day_to = omega arith }

after_last : 9999 < (tomorrow last_day).year
unfolding tomorrow month_days
after_last = omega arith

-- behind the last day no step leads back to a day
steps_behind : (n : ℕ) (d : Day) → IsDay d → day_number last_day < day_number d + n → 9999 < (days_after n d).year
unfolding days_after
steps_behind zero d h l = absurd (omega (arith, number_most d h))
steps_behind (suc n) d h l = by (dec_lt (day_number last_day) (day_number d + n)) (steps_behind n d h)
  where
    by : Dec (day_number last_day < day_number d + n) → (day_number last_day < day_number d + n → 9999 < (days_after n d).year)
        → 9999 < (tomorrow (days_after n d)).year
    by (yes a) behind = behind_on (days_after n d) (behind a)
    by (no a) behind =
        let s = steps_counted n d h (omega arith) in
        let e = number_one (days_after n d) last_day s.0 last_day_lem (omega (arith, s.1)) in
        rw e after_last

-- so many steps that lead to a day are so many numbers
steps_to_day : (n : ℕ) (d e : Day) → IsDay d → IsDay e → e ≡ days_after n d → day_number e ≡ day_number d + n
steps_to_day n d e h i s = by (dec_lt (day_number last_day) (day_number d + n))
  where
    by : Dec (day_number last_day < day_number d + n) → day_number e ≡ day_number d + n
    by (yes a) = absurd (omega (arith, i.year_to, ap (λ (x : Day). x.year) s, steps_behind n d h a))
    by (no a) = ap day_number s ∙ (steps_counted n d h (omega arith)).1

module _ (made d : Day) (h : IsDay made) (i : IsDay d) where
  pub early_stepped : TooEarly made d ↔ ((n : ℕ) × (made ≡ days_after (suc n) d))
  early_stepped = (
    λ t. let l = (before_lower d made i h).0 t in let n : ℕ = day_number made - day_number d - 1 in (n, steps_from (suc n) d made i h (omega arith)),
    λ x. (before_lower d made i h).1 (omega (arith, steps_to_day (suc x.0) d made i h x.1)),
  )

  pub late_stepped : made.year < 9999 → TooLate made d ↔ ((n : ℕ) × (span_days < n) × (d ≡ days_after n made))
  late_stepped y = (
    λ t. let l = (late_higher made d h y i).0 t in let n : ℕ = day_number d - day_number made in (n, omega arith, steps_from n made d h i (omega arith)),
    λ x. (late_higher made d h y i).1 (omega (arith, x.1, steps_to_day x.0 made d h i x.2)),
  )
