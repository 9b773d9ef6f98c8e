-- A number in bytes that are known to be digits: what a loop over them keeps, and what it comes to.
use Prim.Native.Nat.{ℕ, zero, suc, ◌+◌, ◌-◌, ◌*◌, ◌≤◌, ◌<◌}
use native.Mathlib.Omega.{arith}
use mathlib.Core.Path.{◌≡◌, sym, ap, subst, ◌∙◌}
use mathlib.Core.Bool.{Bool}
use mathlib.Core.List.{List, [], ◌∷◌}
use lib.ListN.{length, take, drop, get_or, length-drop}
use lib.Seq.{length-take-le, take_all}
use lib.Dec.{T, leb, leb→le}
use Rattle.form.specs.Kind.{every, digit}
use Rattle.form.specs.Reader.{number}
use Rattle.form.proofs.BoolLaws.{and_both}
use Rattle.fields.proofs.DigitLaws.{Spelt, spelt_more}

-- a test that all pass is passed by each
each : (t : ℕ → Bool) (bs : List ℕ) (i : ℕ) → T (every t bs) → i < length bs → T (t (get_or bs i 0))
each t [] i h l = absurd (omega arith)
each t (b ∷ bs) zero h l = (and_both (t b) (every t bs) h).0
each t (b ∷ bs) (suc i) h l = each t bs i (and_both (t b) (every t bs) h).1 (omega arith)

-- the w bytes of s from p on, as the loop goes over them
abbrev pub bytes_of : List ℕ → ℕ → ℕ → List ℕ
bytes_of s p w = take (p + w - p) (drop p s)

module _ (s : List ℕ) (p w : ℕ) (inside : p + w ≤ length s) (digits : T (every digit (take w (drop p s)))) where
  same : bytes_of s p w ≡ take w (drop p s)
  same = ap (λ n. take n (drop p s)) (omega arith)

  pub long : length (bytes_of s p w) ≡ w
  long = ap length same ∙ length-take-le w (drop p s) (simp length-drop (omega arith))

  module _ (i : ℕ) (h : i < length (bytes_of s p w)) where
    -- each byte is a digit
    pub digit_there : (0x30 ≤ get_or (bytes_of s p w) i 0) × (get_or (bytes_of s p w) i 0 ≤ 0x39)
    digit_there =
        let b = get_or (bytes_of s p w) i 0 in
        let d = and_both (leb 0x30 b) (leb b 0x39) (each digit (bytes_of s p w) i (subst (λ bs. T (every digit bs)) (sym same) digits) h) in
        (leb→le 0x30 b d.0, leb→le b 0x39 d.1)

    -- one digit more is read
    pub number_more : {v : ℕ} → Spelt (bytes_of s p w) i v → Spelt (bytes_of s p w) (i + 1) (v * 10 + (get_or (bytes_of s p w) i 0 - 0x30))
    number_more {v} k =
        let d = digit_there in
        let b = get_or (bytes_of s p w) i 0 in
        spelt_more (bytes_of s p w) i v (b - 0x30) k h (omega arith) (omega arith) (omega arith)

  -- where all digits are read, the number of the field has come out
  pub number_whole : {i v : ℕ} → Spelt (bytes_of s p w) i v → length (bytes_of s p w) ≤ i → v ≡ number (take w (drop p s))
  number_whole {i} k h = k.value ∙ ap number (take_all i (bytes_of s p w) h ∙ same)
