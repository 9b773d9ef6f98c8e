-- The statement of `letter` admits one answer: the letter of a line is one byte.
use Prim.Native.Nat.{ℕ}
use mathlib.Core.Path.{◌≡◌, sym, ◌∙◌}
use mathlib.Core.Bool.{Bool}
use mathlib.Core.List.{[], ◌∷◌}
use Rattle.layout.specs.Cells.{letter_of}

pub one_letter : (head : Bool) (r s : ℕ) → letter_of head ≡ r ∷ [] → letter_of head ≡ s ∷ [] → r ≡ s
one_letter head r s d e = let f = sym d ∙ e in cc
