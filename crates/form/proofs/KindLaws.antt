-- The laws of each kind: what is spelled is read back, and what is read is what was spelled. A new kind owes the three at the end.
-- For fixed bytes, texts and words the reader tests the bytes themselves, and the laws are immediate. The work is in digits: `number` takes back
-- what `numeral` spells, and the other way round, by induction over the digits; the leading digit is parted from the rest by the laws of
-- division by a power of ten, for which the rest must be below that power (`number_lt`).
use Prim.Native.Nat.{ℕ, zero, suc, ◌+◌, ◌-◌, ◌/◌, ◌%◌, ◌^◌, ◌≤◌, ◌<◌}
use native.Mathlib.Nat.{div-add-mod', mod-lt, div-lt_iff_lt-mul, pow-succ', one-le-pow, add-zero, mul-add-div_right, mul-add-mod_self_right, mod-eq_of_lt, div-eq_of_lt, mul-le-mul_right, pow-zero}
use native.Mathlib.Omega.{arith}
use mathlib.Core.Path.{◌≡◌, refl, sym, ap, ap₂, subst}
use mathlib.Core.Logic.{inl, inr}
use mathlib.Core.Bool.{Bool, true, false}
use mathlib.Core.List.{List, [], ◌∷◌}
use mathlib.Core.Option.{none, some}
use lib.ListN.{length, length-replicate}
use lib.Dec.{T, leb, ltb, eqb, leb→le, ltb→lt, le→leb, lt→ltb, eqb→eq, eqb_refl}
use borrow.Author.Tests.{ne_eqb}
use Rattle.form.specs.Kind.{Kind, fixed, digits, maybe, text, choice, Value, width, fits, spell, numeral, every, one, same, among, one_of, digit, blanks}
use Rattle.form.specs.Reader.{Reason, not_fixed, not_digit, not_sign, has, if_so, number, optional, judge}
use Rattle.form.proofs.AnswerLaws.{has_or_lacks}
use Rattle.form.proofs.BoolLaws.{is_true, T_of, and_both, and_of, or_cases}

-- ---- rows of bytes

pub same_self : (xs : List ℕ) → T (same xs xs)
same_self [] = tt
same_self (x ∷ xs) = and_of (eqb x x) (same xs xs) (eqb_refl x) (same_self xs)

pub same_eq : (xs ys : List ℕ) → T (same xs ys) → xs ≡ ys
same_eq [] [] t = refl
same_eq [] (y ∷ ys) t = absurd t
same_eq (x ∷ xs) [] t = absurd t
same_eq (x ∷ xs) (y ∷ ys) t = let h = and_both (eqb x y) (same xs ys) t in ap₂ ◌∷◌ (eqb→eq x y h.0) (same_eq xs ys h.1)

-- ---- one of some

-- what is computed of each entry holds of a value that is one of them: of any entries, of words, of numbers
entry : {A : Type 0} (p q : A → Bool) (v : A) → ((x : A) → T (q x) → x ≡ v) → (xs : List A) → T (every p xs) → T (one q xs) → T (p v)
entry p q v e [] a t = absurd t
entry p q v e (x ∷ xs) a t =
    let h = and_both (p x) (every p xs) a in
    elim (or_cases (q x) (one q xs) t) [ inl s ↦ subst (λ y. T (p y)) (e x s) h.0 | inr s ↦ entry p q v e xs h.1 s ]

pub among_every : (p : List ℕ → Bool) (words : List (List ℕ)) (v : List ℕ) → T (every p words) → T (among words v) → T (p v)
among_every p words v = entry p (λ w. same w v) v (λ w. same_eq w v) words

pub one_of_every : (p : ℕ → Bool) (xs : List ℕ) (n : ℕ) → T (every p xs) → T (one_of xs n) → T (p n)
one_of_every p xs n = entry p (λ x. eqb n x) n (λ x e. sym (eqb→eq n x e)) xs

-- ---- digits

power : (w : ℕ) → 0 < 10 ^ w
power w = one-le-pow w 10 (omega arith)

top : (w n : ℕ) → n < 10 ^ suc w → n / 10 ^ w < 10
top w n h = (div-lt_iff_lt-mul (power w)).1 (rw (pow-succ' 10 w) at h)

digit_at : (b : ℕ) → T (digit b) → (0x30 ≤ b) × (b ≤ 0x39)
digit_at b t = let c = and_both (leb 0x30 b) (leb b 0x39) t in (leb→le 0x30 b c.0, leb→le b 0x39 c.1)

digit_of : (d : ℕ) → d < 10 → T (digit (0x30 + d))
digit_of d h = and_of (leb 0x30 (0x30 + d)) (leb (0x30 + d) 0x39) (omega (arith, le→leb)) (omega (arith, le→leb))

pub numeral_length : (w n : ℕ) → length (numeral w n) ≡ w
unfolding numeral
numeral_length zero n = refl
numeral_length (suc w) n = ap suc (numeral_length w (n % 10 ^ w))

pub numeral_digits : (w n : ℕ) → n < 10 ^ w → T (every digit (numeral w n))
unfolding numeral
numeral_digits zero n h = tt
numeral_digits (suc w) n h = and_of (digit (0x30 + n / 10 ^ w)) _ (digit_of (n / 10 ^ w) (top w n h)) (numeral_digits w (n % 10 ^ w) (mod-lt n (power w)))

first_back : (d : ℕ) → 0x30 + d - 0x30 ≡ d
first_back d = omega arith

pub number_numeral : (w n : ℕ) → n < 10 ^ w → number (numeral w n) ≡ n
unfolding numeral number
number_numeral zero n h = omega (arith, rw (pow-zero 10) at h)
number_numeral (suc w) n h =
    rw (numeral_length w (n % 10 ^ w), number_numeral w (n % 10 ^ w) (mod-lt n (power w)), first_back (n / 10 ^ w)) (div-add-mod' n (10 ^ w))

digit_below : (b : ℕ) → T (digit b) → b - 0x30 < 10
digit_below b t = omega (arith, digit_at b t)

pub number_lt : (bs : List ℕ) → T (every digit bs) → number bs < 10 ^ length bs
unfolding number
number_lt [] t = rw (pow-zero 10) (omega arith)
number_lt (b ∷ bs) t =
    let h = and_both (digit b) (every digit bs) t in
    let i = number_lt bs h.1 in
    rw (pow-succ' 10 (length bs)) (omega (arith, i, mul-le-mul_right (10 ^ length bs) (digit_below b h.0)))

digit_back : (b : ℕ) → T (digit b) → 0x30 + (b - 0x30) ≡ b
digit_back b t = omega (arith, digit_at b t)

pub numeral_number : (bs : List ℕ) → T (every digit bs) → numeral (length bs) (number bs) ≡ bs
unfolding number numeral
numeral_number [] t = refl
numeral_number (b ∷ bs) t =
    let h = and_both (digit b) (every digit bs) t in
    let i = number_lt bs h.1 in
    rw (
      mul-add-div_right (power (length bs)) (b - 0x30) (number bs),
      mul-add-mod_self_right,
      div-eq_of_lt i,
      mod-eq_of_lt i,
      numeral_number bs h.1,
      add-zero,
      digit_back b h.0,
    )

-- a number of at least one digit is not blank
not_blank : (w n : ℕ) → 0 < w → same (blanks w) (numeral w n) ≡ false
unfolding numeral
not_blank zero n h = absurd (omega arith)
not_blank (suc w) n h = rw (ne_eqb 0x20 (0x30 + n / 10 ^ w) (omega arith))

-- where `if_so` lets a value pass, its test holds and the value is the one that was given
pub so : {X : Type 0} (b : Bool) (x y : X) (z : Reason) → if_so b x z ≡ has y → T b × (x ≡ y)
so true x y z e = (tt, cc)
so false x y z e = absurd (has_or_lacks (sym e))

pub length_zero : (f : List ℕ) → length f ≡ 0 → f ≡ []
length_zero [] e = refl
length_zero (x ∷ xs) e = absurd (omega arith)

-- ---- the three laws of a kind

-- a spelled value is as wide as the field
pub spell_length : (κ : Kind) (v : Value κ) → T (fits κ v) → length (spell κ v) ≡ width κ
spell_length (fixed bs) v t = refl
spell_length (digits w) n t = numeral_length w n
spell_length (maybe w) none t = length-replicate w 0x20
spell_length (maybe w) (some n) t = numeral_length w n
spell_length (text sign w) s t = eqb→eq (length s) w (and_both (eqb (length s) w) (every sign s) t).0
spell_length (choice w words) v t = eqb→eq (length v) w (and_both (eqb (length v) w) (among words v) t).0

-- a spelled value is read back
pub judge_spell : (κ : Kind) (v : Value κ) → T (fits κ v) → judge κ (spell κ v) ≡ has v
unfolding judge
judge_spell (fixed bs) v t = rw (is_true (same bs bs) (same_self bs))
judge_spell (digits w) n t =
    let h = ltb→lt n (10 ^ w) t in rw (is_true (every digit (numeral w n)) (numeral_digits w n h), number_numeral w n h)
judge_spell (maybe w) none t = rw (is_true (same (blanks w) (blanks w)) (same_self (blanks w)))
judge_spell (maybe w) (some n) t =
    let b = and_both (ltb 0 w) (ltb n (10 ^ w)) t in
    let h = ltb→lt n (10 ^ w) b.1 in
    rw (not_blank w n (ltb→lt 0 w b.0), is_true (every digit (numeral w n)) (numeral_digits w n h), number_numeral w n h)
judge_spell (text sign w) s t = rw (is_true (every sign s) (and_both (eqb (length s) w) (every sign s) t).1)
judge_spell (choice w words) v t = rw (is_true (among words v) (and_both (eqb (length v) w) (among words v) t).1)

-- what is read fits, and is what was spelled
pub judge_has : (κ : Kind) (f : List ℕ) (v : Value κ) → length f ≡ width κ → judge κ f ≡ has v → T (fits κ v) × (spell κ v ≡ f)
unfolding judge
judge_has (fixed bs) f v l e = (tt, same_eq bs f (so (same bs f) tt v not_fixed e).0)
judge_has (digits w) f v l e =
    let h = so (every digit f) (number f) v not_digit e in
    (rw (← h.1, ← l) (lt→ltb (number f) (10 ^ length f) (number_lt f h.0)), rw (← h.1, ← l) (numeral_number f h.0))
judge_has (maybe w) f v l e = by w l (same (blanks w) f) refl e
  where
    by : (w : ℕ) → length f ≡ w → (b : Bool) → same (blanks w) f ≡ b → optional b f ≡ has v → T (fits (maybe w) v) × (spell (maybe w) v ≡ f)
    by w l true p e = let g : none ≡ v = cc in rw (← g) (tt, same_eq (blanks w) f (T_of p))
    by zero l false p e = absurd (subst T p (rw (length_zero f l) tt))
    by (suc w) l false p e =
        let h = so (every digit f) (some (number f)) v not_digit e in
        let i : 0 < length f = omega arith in
        rw (← h.1, ← l) (
          and_of (ltb 0 (length f)) (ltb (number f) (10 ^ length f)) (lt→ltb 0 (length f) i) (lt→ltb (number f) (10 ^ length f) (number_lt f h.0)),
          numeral_number f h.0,
        )
judge_has (text sign w) f v l e =
    let h = so (every sign f) f v not_sign e in
    (rw (← h.1) (and_of (eqb (length f) w) (every sign f) (rw l (eqb_refl w)) h.0), sym h.1)
judge_has (choice w words) f v l e =
    let h = so (among words f) f v not_fixed e in
    (rw (← h.1) (and_of (eqb (length f) w) (among words f) (rw l (eqb_refl w)) h.0), sym h.1)
