-- What single fields owe: the contents that legal values give them, and the legal values that their contents are.
use Prim.Native.Nat.{ℕ, zero, suc, ◌≤◌}
use native.Mathlib.Omega.{arith}
use mathlib.Core.Path.{◌≡◌}
use mathlib.Core.Bool.{Bool, true, false, ◌&&◌}
use mathlib.Core.List.{List}
use lib.ListN.{length}
use lib.Dec.{T, ltb, eqb, eqb→eq}
use Rattle.form.specs.Kind.{every, among, one_of}
use Rattle.form.proofs.BoolLaws.{and_both, and_of}
use Rattle.form.proofs.KindLaws.{among_every, one_of_every}
use Rattle.document.specs.Signs.{sign}
use Rattle.document.specs.Rules.{Text, file_kinds, not_zero, keys, key_ok, begins_with_g, supplement_ok}

-- ---- texts

pub text_fits : (t : List ℕ) → Text t → T (eqb (length t) 27 && every sign t)
text_fits t l = and_of (eqb (length t) 27) (every sign t) (rw l.long tt) l.signs

pub fits_text : (t : List ℕ) → T (eqb (length t) 27 && every sign t) → Text t
fits_text t h = let b = and_both (eqb (length t) 27) (every sign t) h in record { long = eqb→eq (length t) 27 b.0; signs = b.1 }

-- ---- tables

-- A3 has two signs
pub kind_length : (v : List ℕ) → T (among file_kinds v) → length v ≡ 2
kind_length v t = eqb→eq (length v) 2 (among_every (λ w. eqb (length w) 2) file_kinds v tt t)

pub kind_fits : (v : List ℕ) → T (among file_kinds v) → T (eqb (length v) 2 && among file_kinds v)
kind_fits v t = and_of (eqb (length v) 2) (among file_kinds v) (rw (kind_length v t) tt) t

-- what holds of the keys of credits and of debits holds of every key of a file
key_every : (f : ℕ → Bool) → T (every f (keys true)) → T (every f (keys false)) → (kind : List ℕ) (k : ℕ) → T (key_ok kind k) → T (f k)
key_every f credits debits kind k t = by (begins_with_g kind) t
  where
    by : (b : Bool) → T (one_of (keys b) k) → T (f k)
    by true t = one_of_every f (keys true) k credits t
    by false t = one_of_every f (keys false) k debits t

-- C7a has two digits
pub key_fits : (kind : List ℕ) (k : ℕ) → T (key_ok kind k) → T (ltb k 100)
key_fits = key_every (λ x. ltb x 100) tt tt

-- the supplement 000 goes with every key
pub plain_supplement : (kind : List ℕ) (k : ℕ) → T (key_ok kind k) → T (supplement_ok k 0)
plain_supplement = key_every (λ x. supplement_ok x 0) tt tt

-- ---- numbers

pub at_least_one : (v : ℕ) → T (not_zero v) → 1 ≤ v
at_least_one zero h = absurd h
at_least_one (suc v) h = omega arith
