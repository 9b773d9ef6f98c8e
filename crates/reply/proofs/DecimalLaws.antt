-- How many digits a number has in decimal: counted by dividing, enough to hold it, and at most 20 for a number of 64 bits.
use Prim.Native.Nat.{ℕ, zero, suc, ◌+◌, ◌/◌, ◌%◌, ◌^◌, ◌≤◌, ◌<◌}
use native.Mathlib.Nat.{pow-suc, div-lt_iff_lt-mul, mod-eq_of_lt}
use native.Mathlib.Omega.{arith}
use mathlib.Core.Path.{◌≡◌, refl, sym, ap, ◌∙◌}
use mathlib.Core.Logic.{◌↔◌, ◌⊎◌, inl, inr, ⊎_elim}
use mathlib.Core.Bool.{Bool, true, false}
use lib.Dec.{ltb}
use borrow.Author.Tests.{ltb-true, ltb-false, lt-ltb, le-ltb}
use Rattle.form.specs.Kind.{numeral}
use Rattle.form.specs.Reader.{number}
use Rattle.form.proofs.KindLaws.{number_numeral}
use Rattle.reply.specs.Reply.{digits_within, decimal}

-- ---- one digit, or one more than the tenth

one_digit : (n v : ℕ) → v < 10 → digits_within (suc n) v ≡ 1
unfolding digits_within
one_digit n v h = rw (lt-ltb v 10 h)

no_digit : (v : ℕ) → digits_within 0 v ≡ 0
unfolding digits_within
no_digit v = refl

another_digit : (n v : ℕ) → 10 ≤ v → digits_within (suc n) v ≡ suc (digits_within n (v / 10))
unfolding digits_within
another_digit n v h = rw (le-ltb v 10 h)

tenth : (n v : ℕ) → (v / 10 < 10 ^ n) ↔ (v < 10 ^ suc n)
tenth n v = rw (pow-suc 10 n) (div-lt_iff_lt-mul {k = 10} {x = v} {y = 10 ^ n} (omega arith))

few_or_more : (v : ℕ) → (v < 10) ⊎ (10 ≤ v)
few_or_more v = by (ltb v 10) refl
  where
    by : (b : Bool) → ltb v 10 ≡ b → (v < 10) ⊎ (10 ≤ v)
    by true e = inl (ltb-true v 10 e)
    by false e = inr (ltb-false v 10 e)

-- ---- how many digits

-- no more than n digits are counted, whatever the number
pub no_more : (n v : ℕ) → digits_within n v ≤ n
no_more zero v = omega (arith, no_digit v)
no_more (suc n) v =
    ⊎_elim (λ h. omega (arith, one_digit n v h)) (λ h. omega (arith, another_digit n v h, no_more n (v / 10))) (few_or_more v)

-- where n digits suffice for a number, those counted suffice
digits_suffice : (n v : ℕ) → v < 10 ^ n → v < 10 ^ digits_within n v
digits_suffice zero v h = rw (no_digit v) h
digits_suffice (suc n) v h =
    ⊎_elim (λ l. rw (one_digit n v l) l)
    (λ l. rw (another_digit n v l) ((tenth (digits_within n (v / 10)) v).0 (digits_suffice n (v / 10) ((tenth n v).1 h)))) (few_or_more v)

-- no digit too many is counted: where there are two or more, the first is no 0
pub no_zero_ahead : (n v k : ℕ) → digits_within n v ≡ suc (suc k) → 10 ^ suc k ≤ v
no_zero_ahead zero v k e = absurd (omega (arith, e, no_digit v))
no_zero_ahead (suc n) v zero e = ⊎_elim (λ l. absurd (omega (arith, e, one_digit n v l))) (λ l. l) (few_or_more v)
no_zero_ahead (suc n) v (suc k) e =
    ⊎_elim (λ l. absurd (omega (arith, e, one_digit n v l)))
    (λ l. rw (pow-suc 10 (suc k)) (omega (arith, no_zero_ahead n (v / 10) k (omega (arith, e, another_digit n v l))))) (few_or_more v)

-- ---- the numeral

pub decimal_digits : (v : ℕ) → v < 10 ^ 20 → numeral (digits_within 20 v) (v % 10 ^ digits_within 20 v) ≡ decimal v
decimal_digits v h = ap (numeral (digits_within 20 v)) (mod-eq_of_lt (digits_suffice 20 v h))

-- the numeral of v, read as a number again, is v
pub decimal_reads : (v : ℕ) → v < 10 ^ 20 → number (decimal v) ≡ v
decimal_reads v h = number_numeral (digits_within 20 v) v (digits_suffice 20 v h)

-- ---- counted by dividing

-- one place more than suffice counts no digit more
one_place_more : (n v : ℕ) → v < 10 ^ suc n → digits_within (suc (suc n)) v ≡ digits_within (suc n) v
one_place_more zero v h = one_digit 1 v h ∙ sym (one_digit 0 v h)
one_place_more (suc n) v h =
    ⊎_elim (λ l. one_digit (suc (suc n)) v l ∙ sym (one_digit (suc n) v l))
    (λ l. another_digit (suc (suc n)) v l ∙ ap suc (one_place_more n (v / 10) ((tenth (suc n) v).1 h)) ∙ sym (another_digit (suc n) v l)) (few_or_more v)

-- of 64 bits: the last digit, one digit ahead of those of the tenth, and never many
pub last_one : (v : ℕ) → v < 10 → digits_within 20 v ≡ 1
last_one = one_digit 19

pub one_more : (v : ℕ) → 10 ≤ v → v < 10 ^ 20 → digits_within 20 v ≡ 1 + digits_within 20 (v / 10)
one_more v l h = omega (arith, another_digit 19 v l, one_place_more 18 (v / 10) ((tenth 19 v).1 h))

pub few : (v : ℕ) → digits_within 20 v ≤ 20
few = no_more 20

pub ruleset digit_by_digit = (last_one, one_more, few)
