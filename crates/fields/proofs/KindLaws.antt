-- The two letters of A3, byte by byte.
use Rattle.std.proofs.Common.{◌≡◌, ℕ, suc, ◌+◌, ◌<◌, ◌≤◌, Bool, true, false, ◌&&◌, ◌||◌, eqb, List, [], ◌∷◌, length, get_or, take, drop, refl, add-one, arith, drop-cons}
use mathlib.Core.Bool.{and-true}
use Rattle.form.specs.Kind.{choice}
use Rattle.form.specs.Reader.{not_fixed, if_so, judge}
use Rattle.document.specs.Rules.{file_kinds}
use Rattle.fields.specs.Answers.{kind_of}
use Rattle.fields.proofs.LeafLaws.{eqb_turn}

pub two_bytes : (s : List ℕ) (p : ℕ) → p + 2 ≤ length s → take 2 (drop p s) ≡ get_or s p 0 ∷ get_or s (p + 1) 0 ∷ []
two_bytes s p h =
    let here : p < length s = omega arith in
    let next : suc p < length s = omega arith in
    rw (add-one p, drop-cons s p 0 here, drop-cons s (suc p) 0 next)

-- G or L, then K or B
abbrev pub named : ℕ → ℕ → Bool
named x y = (eqb x 71 || eqb x 76) && (eqb y 75 || eqb y 66)

four_words : (g l k b : Bool) → (g && (k && true)) || ((l && (k && true)) || ((g && (b && true)) || ((l && (b && true)) || false))) ≡ (g || l) && (k || b)
four_words true true true b = refl
four_words true true false true = refl
four_words true true false false = refl
four_words true false true b = refl
four_words true false false true = refl
four_words true false false false = refl
four_words false true true b = refl
four_words false true false true = refl
four_words false true false false = refl
four_words false false k b = refl

pub judge_kind : (x y : ℕ) → judge (choice 2 file_kinds) (x ∷ y ∷ []) ≡ if_so (named x y) (x ∷ y ∷ []) not_fixed
unfolding judge
judge_kind x y =
    rw (eqb_turn 71 x, eqb_turn 76 x, eqb_turn 75 y, eqb_turn 66 y, four_words (eqb x 71) (eqb x 76) (eqb y 75) (eqb y 66))

pub kind_letters : (x y : ℕ) → record { credit = eqb x 71; customer = eqb y 75 } ≡ kind_of (x ∷ y ∷ [])
kind_letters x y = rw (and-true (eqb x 71), and-true (eqb y 75))
