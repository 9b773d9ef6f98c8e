-- Digits read one after another: what a loop over a field of digits keeps, and what it comes to.
-- The invariant is `Spelt`: the first i bytes are digits and spell v, which is below 10^i, so that before the seventeenth digit there is room
-- for one more (`spelt_room`). Each byte is looked at less the digit 0 in a byte's arithmetic, which is at most 9 for digits alone
-- (`digit_left`, `no_digit`); a digit takes the number on by `number_more`. What the loop comes to is then what the form sees in a digit field
-- and in one that may be blank.
use Rattle.std.proofs.Common.{◌≡◌, ℕ, zero, suc, ◌+◌, ◌-◌, ◌*◌, ◌%◌, ◌^◌, ◌<◌, ◌≤◌, Bool, true, false, cond, ◌&&◌, T, Some, None, Ok, Err, leb, List, [], ◌∷◌, ◌++◌, length, get_or, take, refl, pow-suc, add-one, arith, le→leb, length-append, take_all, take-suc, leb-true}
use native.Mathlib.Nat.{pow-zero, pow-le-pow_right}
use mathlib.Core.Bool.{and-false}
use mathlib.Core.Option.{some}
use borrow.Author.Tests.{lt-leb}
use Rattle.form.specs.Kind.{digits, every, digit}
use Rattle.form.specs.Reader.{not_digit, has, lacks, number, optional, judge}
use Rattle.form.proofs.BoolLaws.{is_true, and_both, and_of}
use Rattle.fields.specs.declared.Refusal.{Refusal}
use Rattle.fields.specs.Answers.{refusal_of}
use Rattle.fields.specs.Stretches.{digits_of, number_in}

-- the number that digits and one more spell
number_more : (bs : List ℕ) (b : ℕ) → number (bs ++ (b ∷ [])) ≡ number bs * 10 + (b - 0x30)
unfolding number
number_more [] b = rw (pow-zero 10) (omega arith)
number_more (x ∷ xs) b =
    rw (number_more xs b, length-append xs (b ∷ []), add-one (length xs), pow-suc 10 (length xs)) (omega arith)

every_more : (t : ℕ → Bool) (bs : List ℕ) (b : ℕ) → T (every t bs) → T (t b) → T (every t (bs ++ (b ∷ [])))
every_more t [] b h i = and_of (t b) true i tt
every_more t (x ∷ xs) b h i = let j = and_both (t x) (every t xs) h in and_of (t x) _ j.0 (every_more t xs b j.1 i)

not_every : (t : ℕ → Bool) (bs : List ℕ) (i : ℕ) → i < length bs → t (get_or bs i 0) ≡ false → every t bs ≡ false
not_every t [] i h e = absurd (omega arith)
not_every t (x ∷ xs) zero h e = rw e
not_every t (x ∷ xs) (suc i) h e = rw (not_every t xs i (omega arith) e) (and-false (t x))

-- the first i bytes are digits and spell v
pub record Spelt (f : List ℕ) (i v : ℕ) : Type 0 where
  pub inside : i ≤ length f
  pub value : v ≡ number (take i f)
  pub digits : T (every digit (take i f))
  pub below : v < 10 ^ i

pub spelt_none : (f : List ℕ) → Spelt f 0 0
unfolding number
spelt_none f = record { inside = omega arith; value = refl; digits = tt; below = omega arith }

-- d is what is left of the byte b without the digit 0, in a byte's arithmetic
module _ (b d : ℕ) (small : d < 256) (wraps : (d + 0x30) % 256 ≡ b) where
  digit_left : d ≤ 9 → (0x30 ≤ b) × (b ≤ 0x39) × (b - 0x30 ≡ d)
  digit_left h = (omega arith, omega arith, omega arith)

  pub no_digit : 9 < d → digit b ≡ false
  no_digit h = by (leb 0x30 b) refl
    where
      by : (x : Bool) → leb 0x30 b ≡ x → x && leb b 0x39 ≡ false
      by true e = let l = leb-true 0x30 b e in lt-leb b 0x39 (omega arith)
      by false e = refl

module _ (f : List ℕ) (i v d : ℕ) (s : Spelt f i v) (more : i < length f) (small : d < 256) (wraps : (d + 0x30) % 256 ≡ get_or f i 0) where
  pub spelt_more : d ≤ 9 → Spelt f (i + 1) (v * 10 + d)
  spelt_more h =
      let b = get_or f i 0 in
      let l = digit_left b d small wraps h in
      record {
        inside = omega arith;
        value = rw (add-one i, take-suc f i 0 more, number_more (take i f) b, ← s.value, l.2);
        digits = rw (add-one i, take-suc f i 0 more) (every_more digit (take i f) b s.digits (and_of (leb 0x30 b) (leb b 0x39) (le→leb 0x30 b l.0) (le→leb b 0x39 l.1)));
        below = rw (add-one i, pow-suc 10 i) (omega (arith, s.below));
      }

  pub spelt_not : 9 < d → digits_of f ≡ None
  unfolding digits_of
  spelt_not h = rw (not_every digit f i more (no_digit (get_or f i 0) d small wraps h))

pub spelt_all : (f : List ℕ) (i v : ℕ) → Spelt f i v → length f ≤ i → digits_of f ≡ Some v
unfolding digits_of
spelt_all f i v s h =
    let e : take i f ≡ f = take_all i f h in
    rw (is_true (every digit f) (rw e at s.digits), ← e, ← s.value)

-- a number of fewer than 17 digits has room for one more
pub spelt_room : (f : List ℕ) (i v : ℕ) → Spelt f i v → i < 17 → v < 10 ^ 16
spelt_room f i v s h = let l : i ≤ 16 = omega arith in let t : 0 < 10 = omega arith in let p : 10 ^ i ≤ 10 ^ 16 = pow-le-pow_right t l in omega (arith, s.below)

-- ---- what `number_in` tells of the bytes of a field

no_ok : (b : Bool) (n p v : ℕ) → cond b (Ok n) (Err (refusal_of 3 p)) ≡ Ok v → (b ≡ true) × (n ≡ v)
no_ok true n p v e = (refl, cc)
no_ok false n p v e = absurd cc

no_err : (b : Bool) (n p : ℕ) {r : Refusal} → cond b (Ok n) (Err (refusal_of 3 p)) ≡ Err r → (b ≡ false) × (r ≡ refusal_of 3 p)
no_err true n p e = absurd cc
no_err false n p e = (refl, cc)

module _ (f : List ℕ) (p w : ℕ) where
  pub number_has : {v : ℕ} → number_in f p ≡ Ok v → (judge (digits w) f ≡ has v) × (optional false f ≡ has (some v))
  unfolding judge
  number_has {v} e = let h = no_ok (every digit f) (number f) p v e in (rw (h.0, h.1), rw (h.0, h.1))

  pub number_lacks : {r : Refusal} → number_in f p ≡ Err r → (judge (digits w) f ≡ lacks not_digit) × (optional false f ≡ lacks not_digit) × (r ≡ refusal_of 3 p)
  unfolding judge
  number_lacks e = let h = no_err (every digit f) (number f) p e in (rw (h.0), rw (h.0), h.1)
