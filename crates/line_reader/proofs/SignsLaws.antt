-- Permitted signs from a place on: how a look at one more of them goes on or ends, how many there are, and where a text that is printed ends.
-- What is said of `signs_ahead` goes by induction over the bytes that may be looked at, with two cases for the next: a sign, or none. A loop that
-- looks at one byte after another keeps `Looked`: the end is i and as many bytes as there are signs from i on. One sign more takes both on by
-- one (`looked_more`); at another byte, behind 27 signs or at the end of the listing none is ahead, and the end is i (`looked_stop`,
-- `looked_end`).
use Prim.Native.Nat.{ℕ, zero, suc, ◌+◌, ◌-◌, ◌≤◌, ◌<◌, min}
use native.Mathlib.Numerals.{add-one}
use native.Mathlib.Omega.{arith}
use mathlib.Core.Path.{◌≡◌, refl, ap, ◌∙◌}
use mathlib.Core.Bool.{Bool, true, false, cond}
use mathlib.Core.List.{List, [], ◌∷◌, ◌++◌}
use lib.ListN.{length, get_or, take, drop, length-drop, drop_of_length-le}
use lib.Seq.{drop-cons}
use lib.Dec.{T}
use Rattle.form.specs.Kind.{every}
use Rattle.form.proofs.BoolLaws.{is_true, T_of, and_both, and_of}
use Rattle.document.specs.Signs.{sign}
use Rattle.line_reader.specs.Lines.{signs_ahead, signs_end}

pub every_append : (t : ℕ → Bool) (a b : List ℕ) → T (every t a) → T (every t b) → T (every t (a ++ b))
every_append t [] b g h = h
every_append t (x ∷ xs) b g h =
    let k = and_both (t x) (every t xs) g in
    and_of (t x) (every t (xs ++ b)) k.0 (every_append t xs b k.1 h)

-- ---- how many signs there are

pub signs_few : (n : ℕ) (l : List ℕ) → signs_ahead n l ≤ n
unfolding signs_ahead
signs_few zero l = omega arith
signs_few (suc n) [] = omega arith
signs_few (suc n) (b ∷ bs) = by (sign b) (signs_few n bs)
  where
    by : (e : Bool) → signs_ahead n bs ≤ n → cond e (suc (signs_ahead n bs)) 0 ≤ suc n
    by true h = omega arith
    by false h = omega arith

signs_inside : (n : ℕ) (l : List ℕ) → signs_ahead n l ≤ length l
unfolding signs_ahead
signs_inside zero l = omega arith
signs_inside (suc n) [] = omega arith
signs_inside (suc n) (b ∷ bs) = by (sign b) (signs_inside n bs)
  where
    by : (e : Bool) → signs_ahead n bs ≤ length bs → cond e (suc (signs_ahead n bs)) 0 ≤ suc (length bs)
    by true h = omega arith
    by false h = omega arith

pub signs_end_inside : (l : List ℕ) (p : ℕ) → p ≤ length l → signs_end l p ≤ length l
signs_end_inside l p h = omega (arith, signs_inside 27 (drop p l), length-drop p l)

pub signs_are : (n : ℕ) (l : List ℕ) → T (every sign (take (signs_ahead n l) l))
unfolding signs_ahead
signs_are zero l = tt
signs_are (suc n) [] = tt
signs_are (suc n) (b ∷ bs) = by (sign b) refl (signs_are n bs)
  where
    by : (e : Bool) → sign b ≡ e → T (every sign (take (signs_ahead n bs) bs)) → T (every sign (take (cond e (suc (signs_ahead n bs)) 0) (b ∷ bs)))
    by true p h = and_of (sign b) (every sign (take (signs_ahead n bs) bs)) (T_of p) h
    by false p h = tt

-- at most n signs, and behind them a byte that is none: all of them are counted
pub signs_printed : (n : ℕ) (t : List ℕ) (b : ℕ) (bs : List ℕ) → T (every sign t) → length t ≤ n → sign b ≡ false → signs_ahead n (t ++ (b ∷ bs)) ≡ length t
unfolding signs_ahead
signs_printed zero [] b bs h few other = refl
signs_printed zero (x ∷ xs) b bs h few other = absurd (omega arith)
signs_printed (suc n) [] b bs h few other = rw other
signs_printed (suc n) (x ∷ xs) b bs h few other =
    let k = and_both (sign x) (every sign xs) h in
    rw (is_true (sign x) k.0, signs_printed n xs b bs k.1 (omega arith) other)

-- ---- one sign more at a time

-- of the signs from p on, those before i have been looked at
pub record Looked (l : List ℕ) (p i : ℕ) : Type 0 where
  pub on : p ≤ i
  pub few : i ≤ p + 27
  pub same : i + signs_ahead (p + 27 - i) (drop i l) ≡ signs_end l p

pub looked_none : (l : List ℕ) (p : ℕ) → Looked l p p
looked_none l p =
    let n : p + 27 - p ≡ 27 = omega arith in
    record { on = omega arith; few = omega arith; same = ap (λ m. p + signs_ahead m (drop p l)) n }

-- no sign is left to look at
none_left : (n : ℕ) (l : List ℕ) (i : ℕ) → min (length l) (i + n) ≤ i → signs_ahead n (drop i l) ≡ 0
unfolding signs_ahead
none_left zero l i h = refl
none_left (suc n) l i h = let over : length l ≤ i = omega arith in rw (drop_of_length-le l over)

-- the next byte is a sign, or none
next_sign : (n : ℕ) (l : List ℕ) (i : ℕ) → i < length l → sign (get_or l i 0) ≡ true → signs_ahead (suc n) (drop i l) ≡ suc (signs_ahead n (drop (i + 1) l))
unfolding signs_ahead
next_sign n l i h e = rw (add-one, drop-cons l i 0 h, e)

no_sign : (n : ℕ) (l : List ℕ) (i : ℕ) → i < length l → sign (get_or l i 0) ≡ false → signs_ahead n (drop i l) ≡ 0
unfolding signs_ahead
no_sign zero l i h e = refl
no_sign (suc n) l i h e = rw (drop-cons l i 0 h, e)

module _ {l : List ℕ} {p i : ℕ} (k : Looked l p i) where
  pub looked_more : i < length l → i < p + 27 → sign (get_or l i 0) ≡ true → Looked l p (i + 1)
  looked_more h m e =
      let on = k.on in
      let n = p + 27 - (i + 1) in
      let s : p + 27 - i ≡ suc n = omega arith in
      let one : signs_ahead (p + 27 - i) (drop i l) ≡ suc (signs_ahead n (drop (i + 1) l)) = ap (λ m. signs_ahead m (drop i l)) s ∙ next_sign n l i h e in
      record { on = omega arith; few = omega arith; same = omega (arith, one, k.same) }

  pub looked_stop : i < length l → sign (get_or l i 0) ≡ false → i ≡ signs_end l p
  looked_stop h e = omega (arith, no_sign (p + 27 - i) l i h e, k.same)

  pub looked_end : min (length l) (p + 27) ≤ i → i ≡ signs_end l p
  looked_end h =
      let few = k.few in
      omega (arith, none_left (p + 27 - i) l i (omega arith), k.same)
