-- The kinds of field: which values a field of the kind can hold, and how a value is spelled in bytes. Nothing here reads.
use Rattle.std.specs.Prelude.{ℕ, zero, suc, ◌+◌, ◌/◌, ◌%◌, ◌^◌, Bool, true, false, ◌&&◌, ◌||◌, List, [], ◌∷◌, length, replicate, leb, ltb, eqb}
use Rattle.std.proofs.Math.Option.{Option, none, some}

pub data Kind : Type 0 where
  fixed : List ℕ → Kind  -- these bytes
  digits : ℕ → Kind  -- a number, in so many digits
  maybe : ℕ → Kind  -- blanks, or a number in so many digits
  text : (ℕ → Bool) → ℕ → Kind  -- so many signs, each of them permitted
  choice : ℕ → List (List ℕ) → Kind  -- so many bytes, which are one of these words

-- the values that a field of the kind speaks of
abbrev pub Value : Kind → Type 0
Value (fixed bs) = Unit {0}
Value (digits w) = ℕ
Value (maybe w) = Option ℕ
Value (text sign w) = List ℕ
Value (choice w words) = List ℕ

abbrev pub width : Kind → ℕ
width (fixed bs) = length bs
width (digits w) = w
width (maybe w) = w
width (text sign w) = w
width (choice w words) = w

-- all entries of a list pass the test
abbrev pub every : {A : Type 0} → (A → Bool) → List A → Bool
every p [] = true
every p (x ∷ xs) = p x && every p xs

-- one entry of a list passes the test
abbrev pub one : {A : Type 0} → (A → Bool) → List A → Bool
one p [] = false
one p (x ∷ xs) = p x || one p xs

-- two rows of bytes are the same
abbrev pub same : List ℕ → List ℕ → Bool
same [] [] = true
same [] (y ∷ ys) = false
same (x ∷ xs) [] = false
same (x ∷ xs) (y ∷ ys) = eqb x y && same xs ys

-- a word is one of these
abbrev pub among : List (List ℕ) → List ℕ → Bool
among words v = one (λ w. same w v) words

-- a number, or a byte, is one of these
abbrev pub one_of : List ℕ → ℕ → Bool
one_of xs b = one (λ x. eqb b x) xs

-- which values a field of the kind has room for
abbrev pub fits : (κ : Kind) → Value κ → Bool
fits (fixed bs) v = true
fits (digits w) n = ltb n (10 ^ w)
fits (maybe w) none = true
fits (maybe w) (some n) = ltb 0 w && ltb n (10 ^ w)
fits (text sign w) s = eqb (length s) w && every sign s
fits (choice w words) v = eqb (length v) w && among words v

-- digits are the bytes 30 to 39
abbrev pub digit : ℕ → Bool
digit b = leb 0x30 b && leb b 0x39

-- a number in w digits, the highest first
unfoldable pub numeral : ℕ → ℕ → List ℕ
numeral zero n = []
numeral (suc w) n = (0x30 + n / 10 ^ w) ∷ numeral w (n % 10 ^ w)

-- a blank is the byte 20
abbrev pub blanks : ℕ → List ℕ
blanks n = replicate n 0x20

-- how a value is spelled
abbrev pub spell : (κ : Kind) → Value κ → List ℕ
spell (fixed bs) v = bs
spell (digits w) n = numeral w n
spell (maybe w) none = blanks w
spell (maybe w) (some n) = numeral w n
spell (text sign w) s = s
spell (choice w words) v = v
