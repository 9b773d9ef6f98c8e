-- The digits of a number, written from the last to the first.
use Prim.Native.Nat.{ℕ, suc, ◌+◌, ◌-◌, ◌*◌, ◌/◌, ◌%◌, ◌^◌, ◌≤◌, ◌<◌}
use native.Mathlib.Nat.{add-zero, pow-zero, pow-suc, one-le-pow, mul-le-mul_right, div-one, div-eq_of_lt, div-add-mod', div-div-eq-div-mul}
use native.Mathlib.Nat.{mod-lt, mod-eq_of_lt, mul-add-div_right, mul-add-mod_self_right}
use native.Mathlib.Omega.{arith}
use mathlib.Core.Path.{◌≡◌, refl, sym, ap, ◌∙◌}
use mathlib.Core.List.{List, ◌∷◌}
use lib.ListN.{length, set, length-set}
use Rattle.form.specs.Kind.{numeral}
use Rattle.form.proofs.KindLaws.{numeral_length}
use Rattle.output.specs.Writing.{over}
use Rattle.output.proofs.OverLaws.{over_nothing, over_before}

-- ---- the last digits of v, and the one before them

module _ (v k : ℕ) where
  power : 0 < 10 ^ k
  power = one-le-pow k 10 (omega arith)

  last_digits : v % 10 ^ suc k ≡ v / 10 ^ k % 10 * 10 ^ k + v % 10 ^ k
  last_digits =
      let d = v / 10 ^ k % 10 in
      let r = v % 10 ^ k in
      let q = v / 10 ^ k / 10 in
      let e : v ≡ q * (10 ^ k * 10) + (d * 10 ^ k + r)
      = omega (arith, div-add-mod' v (10 ^ k), ap (λ (n : ℕ). n * 10 ^ k) (div-add-mod' (v / 10 ^ k) 10)) in
      let small : d ≤ 9 = omega arith in
      let h : d * 10 ^ k + r < 10 ^ k * 10 = omega (arith, mod-lt v power, mul-le-mul_right (10 ^ k) small) in
      ap (λ (n : ℕ). n % 10 ^ suc k) e ∙ rw (pow-suc 10 k) (mul-add-mod_self_right q (10 ^ k * 10) (d * 10 ^ k + r) ∙ mod-eq_of_lt h)

  numeral_before : numeral (suc k) (v % 10 ^ suc k) ≡ (0x30 + v / 10 ^ k % 10) ∷ numeral k (v % 10 ^ k)
  unfolding numeral
  numeral_before =
      let d = v / 10 ^ k % 10 in
      let r = v % 10 ^ k in
      let h : r < 10 ^ k = mod-lt v power in
      rw (last_digits, mul-add-div_right power d r, div-eq_of_lt h, add-zero, mul-add-mod_self_right d (10 ^ k) r, mod-eq_of_lt h)

-- ---- digit by digit

-- behind the first i of w places from p on stand the last digits of v; left is v without them
pub record Spelling (old : List ℕ) (p v w : ℕ) (out : List ℕ) (left i : ℕ) : Type 0 where
  pub count : ℕ
  pub places : i + count ≡ w
  pub room : p + w ≤ length old
  pub long : length out ≡ length old
  pub rest : left ≡ v / 10 ^ count
  pub holds : out ≡ over (p + i) (numeral count (v % 10 ^ count)) old

pub spelling_start : (old : List ℕ) (p v w : ℕ) → p + w ≤ length old → Spelling old p v w old v w
unfolding numeral
spelling_start old p v w h =
    record { count = 0; places = omega arith; room = h; long = refl; rest = rw (pow-zero 10, div-one v); holds = sym (over_nothing (p + w) old) }

pub spelling_more : {old out : List ℕ} {p v w left i : ℕ} → Spelling old p v w out left i → 0 < i
    → Spelling old p v w (set out (p + (i - 1)) (0x30 + left % 10)) (left / 10) (i - 1)
spelling_more {old} {out} {p} {v} {i = i} s h =
    let k = s.count in
    let e : p + i ≡ suc (p + (i - 1)) = omega arith in
    let digits = numeral k (v % 10 ^ k) in
    let l = numeral_length k (v % 10 ^ k) in
    let next = over_before (p + (i - 1)) (0x30 + v / 10 ^ k % 10) digits old (omega arith) in
    record {
      count = suc k;
      places = omega arith;
      room = s.room;
      long = length-set out _ _ ∙ s.long;
      rest = rw (s.rest, pow-suc 10 k) (div-div-eq-div-mul v (10 ^ k) 10);
      holds = rw (s.holds, e, s.rest, numeral_before v k) next;
    }

pub spelling_end : {old out : List ℕ} {p v w left i : ℕ} → Spelling old p v w out left i → i ≤ 0 → out ≡ over p (numeral w (v % 10 ^ w)) old
spelling_end {p = p} {w = w} {i = i} s h =
    let e : p + i ≡ p = omega arith in
    let k : s.count ≡ w = omega arith in
    s.holds ∙ rw (e, k)

-- what a loop over the places needs: before it, at each digit, behind it
pub ruleset digit_by_digit = (spelling_start, spelling_more, spelling_end)
