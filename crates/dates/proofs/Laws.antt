-- The day that a number names, and what reading the day of execution comes to.
-- A number that was read in so many digits is below ten to their number, so the day that the code takes from its last digits is the day that the
-- whole number names (`names_made`). Of the day of execution the code keeps blanks or a number, as the form does (`maybe_is`); each case that it
-- can be in comes to what the rules of A11b come to there (`dated`).
use Rattle.std.proofs.Common.{◌≡◌, ℕ, ◌+◌, ◌%◌, ◌^◌, List, Option, Some, None, Ok, Err, refl, ap, ◌∙◌}
use Rattle.std.proofs.Math.Option as math
use native.Mathlib.Nat.{mod-eq_of_lt}
use Rattle.form.specs.Kind.{digits, maybe}
use Rattle.form.specs.Reader.{has, obey}
use Rattle.form.specs.Place.{look_at, field_at}
use Rattle.form.proofs.FilledLaws.{look_digits, look_maybe}
use Rattle.document.specs.Calendar.{in_order, no_such_day, too_early, too_late, date_case, of_ddmmyy, of_ddmmyyyy}
use Rattle.document.specs.Calendar as document
use Rattle.diskette.specs.Fields.{rules_a11b}
use Rattle.diskette.proofs.DateRules.{judged, date_judged}
use Rattle.calendar.specs.declared.Day.{Day}
use Rattle.calendar.specs.declared.DateCase.{DateCase}
use Rattle.calendar.specs.declared.DateCase.TheVariants.{InOrder, NoSuchDay, TooEarly, TooLate}
use Rattle.calendar.specs.Days.{day_of, day_from, case_from}
use Rattle.fields.specs.Answers.{refusal_of, Reading, of_field, numbers, maybe_numbers}
use Rattle.fields.proofs.AnswerLaws.{number_is, blank_is, some_is}
use Rattle.fields.proofs.LeafLaws.{field_broken, field_holds}
use Rattle.dates.specs.declared.Execution.{Execution}
use Rattle.dates.specs.declared.Execution.TheVariants.{Absent, On}
use Rattle.dates.specs.Dates.{executions}

-- ---- the day of creation

module _ (f : List ℕ) (p : ℕ) {v q : ℕ}
    (told : ◌≡◌ {A = Reading (ℕ × ℕ)} (Ok (v, q)) (of_field numbers p (p + 6) (look_at (digits 6) f p))) where
  -- the day that the number read names
  pub names_made : {d : Day} → d ≡ day_from (of_ddmmyy (v % 10 ^ 6)) → d ≡ day_from (of_ddmmyy v)
  names_made named =
      let content = (number_is p (p + 6) (look_at (digits 6) f p) told refl).0 in
      named ∙ ap (λ (n : ℕ). day_from (of_ddmmyy n)) (mod-eq_of_lt (look_digits 6 f p v content))

-- ---- the day of execution

-- the number of the form, or none, that one of the code is
abbrev pub read_as : Option ℕ → math.Option ℕ
read_as None = math.none
read_as (Some n) = math.some n

-- what each case of a date comes to: the day d and the place q behind it, or the refusal at p
abbrev pub comes_to : DateCase → Day → ℕ → ℕ → Reading (Execution × ℕ)
comes_to InOrder d p q = Ok (On d, q)
comes_to NoSuchDay d p q = Err (refusal_of 10 p)
comes_to TooEarly d p q = Err (refusal_of 22 p)
comes_to TooLate d p q = Err (refusal_of 23 p)

module _ (made : document.Day) (f : List ℕ) (p : ℕ) {x : Option ℕ} {q : ℕ}
    (told : ◌≡◌ {A = Reading (Option ℕ × ℕ)} (Ok (x, q)) (of_field maybe_numbers p (p + 8) (look_at (maybe 8) f p))) where
  maybe_is : (look_at (maybe 8) f p ≡ has (read_as x)) × (q ≡ p + 8)
  maybe_is = by x told
    where
      by : (y : Option ℕ) → ◌≡◌ {A = Reading (Option ℕ × ℕ)} (Ok (y, q)) (of_field maybe_numbers p (p + 8) (look_at (maybe 8) f p))
          → (look_at (maybe 8) f p ≡ has (read_as y)) × (q ≡ p + 8)
      by None t = blank_is p (p + 8) (look_at (maybe 8) f p) t refl
      by (Some n) t = some_is p (p + 8) (look_at (maybe 8) f p) t refl

  -- blanks
  pub undated : x ≡ None
      → ◌≡◌ {A = Reading (Execution × ℕ)} (Ok (Absent, q)) (of_field executions p (p + 8) (field_at (maybe 8) (rules_a11b made) f p))
  undated e = rw maybe_is.1 (field_holds (maybe 8) executions (rules_a11b made) f p (p + 8) (rw e at maybe_is.0) refl)

  -- eight digits, and the case that their day is in
  module _ {v : ℕ} {d : Day} (e : x ≡ Some v) (named : d ≡ day_from (of_ddmmyyyy (v % 10 ^ 8))) where
    content : look_at (maybe 8) f p ≡ has (math.some v)
    content = rw e at maybe_is.0

    by : (z : document.DateCase) → obey (rules_a11b made (math.some v)) (math.some v) ≡ judged z (math.some v)
        → comes_to (case_from z) (day_from (of_ddmmyyyy v)) p (p + 8) ≡ of_field executions p (p + 8) (field_at (maybe 8) (rules_a11b made) f p)
    by in_order o = field_holds (maybe 8) executions (rules_a11b made) f p (p + 8) content o
    by no_such_day o = field_broken (maybe 8) executions (rules_a11b made) f p (p + 8) content o
    by too_early o = field_broken (maybe 8) executions (rules_a11b made) f p (p + 8) content o
    by too_late o = field_broken (maybe 8) executions (rules_a11b made) f p (p + 8) content o

    pub dated : {k : DateCase} → k ≡ case_from (date_case made (day_of d))
        → comes_to k d p q ≡ of_field executions p (p + 8) (field_at (maybe 8) (rules_a11b made) f p)
    dated {k} told_case =
        let whole = mod-eq_of_lt (look_maybe 8 f p v content) in
        let day : d ≡ day_from (of_ddmmyyyy v) = named ∙ ap (λ (n : ℕ). day_from (of_ddmmyyyy n)) whole in
        rw (told_case, day, maybe_is.1) (by (date_case made (of_ddmmyyyy v)) (date_judged made (of_ddmmyyyy v) (math.some v)))
