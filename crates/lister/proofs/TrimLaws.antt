-- A text without its trailing blanks: it ends in the last byte that is no blank.
use Prim.Native.Nat.{ℕ, zero, suc, ◌+◌, ◌-◌, ◌≤◌, ◌<◌}
use native.Mathlib.Numerals.{add-one}
use native.Mathlib.Omega.{arith}
use mathlib.Core.Path.{◌≡◌, refl, sym, ap, ◌∙◌}
use mathlib.Core.Logic.{◌≢◌}
use mathlib.Core.Bool.{false}
use mathlib.Core.List.{List, [], ◌∷◌, ◌++◌}
use lib.ListN.{length, take, get_or}
use lib.Seq.{length-take-le, take-length, take-suc}
use lib.Dec.{eqb}
use borrow.Author.Tests.{ne_eqb}
use Rattle.listing.specs.Lines.{trim, ends_in_blank}
use Rattle.listing.proofs.LineLaws.{pad_whole, trim_pad}

-- a blank at the end is taken away
trim_blank : (xs : List ℕ) → trim (xs ++ (0x20 ∷ [])) ≡ trim xs
unfolding trim
trim_blank [] = refl
trim_blank (x ∷ xs) = rw (trim_blank xs)

-- a byte at the end that is no blank keeps all before it
trim_sign : (xs : List ℕ) (b : ℕ) → eqb b 0x20 ≡ false → trim (xs ++ (b ∷ [])) ≡ xs ++ (b ∷ [])
trim_sign xs b e =
    let t = xs ++ (b ∷ []) in
    sym (ap trim (pad_whole (length t) t refl)) ∙ trim_pad (length t) t (rw (last_byte xs, e) tt) (omega arith)
  where
    last_byte : (ys : List ℕ) → ends_in_blank (ys ++ (b ∷ [])) ≡ eqb b 0x20
    last_byte [] = refl
    last_byte (x ∷ []) = refl
    last_byte (x ∷ y ∷ ys) = last_byte (y ∷ ys)

-- where the last d bytes are blanks, those before them have the same trimmed text
blanks_off : (t : List ℕ) (d i : ℕ) → i + d ≡ length t → ((k : ℕ) → i ≤ k → k < length t → get_or t k 0 ≡ 0x20) → trim t ≡ trim (take i t)
blanks_off t zero i e b = let whole : i ≡ length t = omega arith in ap trim (sym (ap (λ n. take n t) whole ∙ take-length t))
blanks_off t (suc d) i e b =
    let here : i < length t = omega arith in
    blanks_off t d (suc i) (omega arith) (λ k h. b k (omega arith))
    ∙ ap trim (take-suc t i 0 here)
    ∙ ap (λ x. trim (take i t ++ (x ∷ []))) (b i (omega arith) here)
    ∙ trim_blank (take i t)

-- a text of blanks has no byte without them
pub trims_all : (t : List ℕ) → ((k : ℕ) → k < length t → get_or t k 0 ≡ 0x20) → 0 ≡ length (trim t)
unfolding trim
trims_all t b = sym (ap length (blanks_off t (length t) 0 (omega arith) (λ k l. b k)))

-- a text whose last byte that is no blank is byte i ends there without its trailing blanks
pub trims_to : (t : List ℕ) (i : ℕ) → i < length t → ((k : ℕ) → i < k → k < length t → get_or t k 0 ≡ 0x20) → get_or t i 0 ≢ 0x20
    → i + 1 ≡ length (trim t)
trims_to t i h b s =
    let last = get_or t i 0 in
    let ends = take-suc t i 0 h in
    let off = blanks_off t (length t - suc i) (suc i) (omega arith) (λ k l. b k (omega arith)) in
    add-one i ∙ sym (ap length (off ∙ ap trim ends ∙ trim_sign (take i t) last (ne_eqb last 0x20 s) ∙ sym ends) ∙ length-take-le (suc i) t h)
