-- Fields that stand at a place of a file one after another, and the numbers that they spell.
use Prim.Native.Nat.{ℕ, ◌+◌, ◌-◌, ◌^◌, ◌≤◌, ◌<◌}
use native.Mathlib.Omega.{arith}
use mathlib.Core.Path.{◌≡◌, sym, ap, subst, ◌∙◌}
use mathlib.Core.List.{List, ◌∷◌, ◌++◌, append_assoc}
use lib.ListN.{length, take, drop, length-append, length-drop}
use lib.Seq.{drop-drop, take_at, drop_at}
use lib.Dec.{T}
use Rattle.form.specs.Kind.{every, digit, numeral}
use Rattle.form.specs.Reader.{number}
use Rattle.form.proofs.KindLaws.{numeral_length, numeral_digits, number_numeral}
use Rattle.diskette.specs.Writing.{in_turn}

-- fields that stand at place p of a file, one after another
pub record Stand (f : List ℕ) (p : ℕ) (fields : List (List ℕ)) : Type 0 where
  pub rest : List ℕ
  pub bytes : drop p f ≡ in_turn fields ++ rest

module _ {f : List ℕ} {p : ℕ} {a : List ℕ} {others : List (List ℕ)} (s : Stand f p (a ∷ others)) {n : ℕ} (e : length a ≡ n) where
  pub from_first : drop p f ≡ a ++ (in_turn others ++ s.rest)
  from_first = s.bytes ∙ append_assoc a (in_turn others) s.rest

  -- the bytes at p are those of the first field
  pub first_bytes : take n (drop p f) ≡ a
  first_bytes = ap (take n) from_first ∙ take_at a (in_turn others ++ s.rest) n e

  -- the other fields stand behind the first
  pub behind_first : Stand f (p + n) others
  behind_first = record { rest = s.rest; bytes = sym (drop-drop n p f) ∙ ap (drop n) from_first ∙ drop_at a (in_turn others ++ s.rest) n e }

  pub first_inside : 0 < n → p + n ≤ length f
  first_inside h =
      let l : length f - p ≡ length a + length (in_turn others ++ s.rest) = sym (length-drop p f) ∙ ap length from_first ∙ length-append a (in_turn others ++ s.rest) in
      omega arith

-- where the first field is itself made up of fields, these stand there
pub opened : {f : List ℕ} {p : ℕ} {others : List (List ℕ)} (fields : List (List ℕ)) → Stand f p (in_turn fields ∷ others) → Stand f p fields
opened {others = others} fields s = record { rest = in_turn others ++ s.rest; bytes = s.bytes ∙ append_assoc (in_turn fields) (in_turn others) s.rest }

-- w digits at p spell v
pub record Spells (f : List ℕ) (p w v : ℕ) : Type 0 where
  pub inside : p + w ≤ length f
  pub digits : T (every digit (take w (drop p f)))
  pub value : number (take w (drop p f)) ≡ v

pub numeral_spells : {f : List ℕ} {p w v : ℕ} {others : List (List ℕ)} → Stand f p (numeral w v ∷ others) → 0 < w → v < 10 ^ w → Spells f p w v
numeral_spells {w = w} {v = v} s h l =
    let e = first_bytes s (numeral_length w v) in
    record { inside = first_inside s (numeral_length w v) h; digits = rw e (numeral_digits w v l); value = rw e (number_numeral w v l) }

-- digits that spell v at p, where p is counted in another way
pub spells_at : {f : List ℕ} {p q w v : ℕ} → Spells f p w v → p ≡ q → Spells f q w v
spells_at {f} {w = w} {v = v} s e = subst (λ q. Spells f q w v) e s
