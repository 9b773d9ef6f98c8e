-- How far it is to the first of a byte: step by step, and how the pieces between such bytes begin.
use Prim.Native.Nat.{ℕ, suc, ◌+◌, ◌≤◌, ◌<◌}
use native.Mathlib.Omega.{arith}
use mathlib.Core.Path.{◌≡◌, refl, sym, subst, ◌∙◌}
use mathlib.Core.Bool.{Bool, true, false, cond, ◌||◌}
use mathlib.Core.List.{List, [], ◌∷◌}
use lib.ListN.{length, take, drop, get_or, length-drop, drop_of_length-le}
use lib.Seq.{drop-cons, drop-drop, take_all}
use lib.Dec.{T, eqb}
use borrow.Author.Tests.{eqb-false, eq-eqb, ne_eqb}
use Rattle.listing.specs.Lines.{onto, split}
use Rattle.line_reader.specs.Reaching.{reach}

pub reach_le : (z : ℕ) (l : List ℕ) → reach z l ≤ length l
unfolding reach
reach_le z [] = omega arith
reach_le z (b ∷ bs) = by (eqb b z) (reach_le z bs)
  where
    by : (e : Bool) → reach z bs ≤ length bs → cond e 0 (suc (reach z bs)) ≤ suc (length bs)
    by true h = omega arith
    by false h = omega arith

-- ---- from place i on

module _ (z : ℕ) (l : List ℕ) (i : ℕ) where
  pub reach_here : i < length l → get_or l i 0 ≡ z → reach z (drop i l) ≡ 0
  unfolding reach
  reach_here h e = rw (drop-cons l i 0 h, eq-eqb (get_or l i 0) z e)

  pub reach_on : i < length l → (get_or l i 0 ≡ z → ⊥) → reach z (drop i l) ≡ suc (reach z (drop (suc i) l))
  unfolding reach
  reach_on h n = rw (drop-cons l i 0 h, ne_eqb (get_or l i 0) z n)

  pub reach_end : length l ≤ i → reach z (drop i l) ≡ 0
  unfolding reach
  reach_end h = rw (drop_of_length-le l h)

-- ---- past bytes that were looked at

-- where z was not found among the j bytes from p on, the first z from p on is the first behind them
abbrev pub PastUnless : Bool → ℕ → List ℕ → ℕ → ℕ → Type 0
PastUnless found z l p j = found ≡ false → reach z (drop p l) ≡ j + reach z (drop (p + j) l)

pub past_none : (z : ℕ) (l : List ℕ) (p : ℕ) → PastUnless false z l p 0
past_none z l p e = let h : p + 0 ≡ p = omega arith in rw h (omega arith)

pub past_more : (found : Bool) (z : ℕ) (l : List ℕ) (p j : ℕ) → p + j < length l → PastUnless found z l p j
    → PastUnless (found || eqb (get_or l (p + j) 0) z) z l p (j + 1)
past_more true z l p j h past e = absurd (subst T e tt)
past_more false z l p j h past e =
    let k : p + (j + 1) ≡ suc (p + j) = omega arith in
    rw k (omega (arith, past refl, reach_on z l (p + j) h (eqb-false (get_or l (p + j) 0) z e)))

-- ---- the first piece, and the pieces behind it

pub split_more : (z : ℕ) (l : List ℕ) → reach z l < length l → split z l ≡ take (reach z l) l ∷ split z (drop (suc (reach z l)) l)
unfolding reach split
split_more z [] h = absurd (omega arith)
split_more z (b ∷ bs) h = by (eqb b z) h (λ k. split_more z bs k)
  where
    by : (e : Bool) → cond e 0 (suc (reach z bs)) < suc (length bs)
        → (reach z bs < length bs → split z bs ≡ take (reach z bs) bs ∷ split z (drop (suc (reach z bs)) bs))
        → cond e ([] ∷ split z bs) (onto b (split z bs))
        ≡ take (cond e 0 (suc (reach z bs))) (b ∷ bs) ∷ split z (drop (suc (cond e 0 (suc (reach z bs)))) (b ∷ bs))
    by true h f = refl
    by false h f = rw (f (omega arith))

pub split_last : (z : ℕ) (l : List ℕ) → reach z l ≡ length l → split z l ≡ l ∷ []
unfolding reach split
split_last z [] h = refl
split_last z (b ∷ bs) h = by (eqb b z) h (λ k. split_last z bs k)
  where
    by : (e : Bool) → cond e 0 (suc (reach z bs)) ≡ suc (length bs) → (reach z bs ≡ length bs → split z bs ≡ bs ∷ [])
        → cond e ([] ∷ split z bs) (onto b (split z bs)) ≡ (b ∷ bs) ∷ []
    by true h f = absurd (omega arith)
    by false h f = rw (f (omega arith))

-- the pieces of l from p on, where n bytes stand before the first z
module _ (z : ℕ) (l : List ℕ) (p n : ℕ) (r : n ≡ reach z (drop p l)) where
  pub pieces_more : p + n < length l → split z (drop p l) ≡ take n (drop p l) ∷ split z (drop (p + suc n) l)
  pieces_more h =
      let k : reach z (drop p l) < length (drop p l) = rw (length-drop p l, ← r) (omega arith) in
      rw (← r, drop-drop (suc n) p l) at (split_more z (drop p l) k)

  pub pieces_last : p + n ≡ length l → split z (drop p l) ≡ take n (drop p l) ∷ []
  pieces_last h =
      let k : length (drop p l) ≤ n = rw (length-drop p l) (omega arith) in
      rw (take_all n (drop p l) k) (split_last z (drop p l) (sym r ∙ rw (length-drop p l) (omega arith)))
