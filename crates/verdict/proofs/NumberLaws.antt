-- The number of what stops a reading: that of wrong bytes, or that of the rule which is broken.
use Prim.Native.Nat.{ℕ}
use mathlib.Core.List.{List, [], ◌∷◌}
use lib.Dec.{T}
use Rattle.form.specs.Kind.{every, one_of}
use Rattle.form.specs.Reader.{Reason}
use Rattle.form.proofs.NumberLaws.{one_within, no_word, no_digit, no_sign}
use Rattle.form.proofs.WholeLaws.{Stopped, by_bytes, by_rule}
use Rattle.verdict.specs.Verdicts.{number_of}

-- the numbers of wrong bytes
abbrev pub of_bytes : List ℕ
of_bytes = 2 ∷ 3 ∷ 4 ∷ []

-- where the rules have the numbers xs, one of a list that has these and those of wrong bytes
pub stopped_number : (xs ys : List ℕ) {z : Reason} → T (every (one_of ys) of_bytes) → T (every (one_of ys) xs) → Stopped (one_of xs) z
    → T (one_of ys (number_of z))
unfolding number_of
stopped_number xs ys bytes rules (by_bytes no_word) = one_within of_bytes ys 2 bytes tt
stopped_number xs ys bytes rules (by_bytes no_digit) = one_within of_bytes ys 3 bytes tt
stopped_number xs ys bytes rules (by_bytes no_sign) = one_within of_bytes ys 4 bytes tt
stopped_number xs ys bytes rules (by_rule n h) = one_within xs ys n rules h
