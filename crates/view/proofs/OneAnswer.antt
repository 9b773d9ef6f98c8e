-- The statements of `make`, `hand` and `text_of` admit one answer. None fixes a reference's ghost name, which is no part of the machine value, so
-- what is one is the machine value: the pointer, the count and the numbers.
use mathlib.Core.Path.{◌≡◌, sym, ◌∙◌}
use Prim.Native.Nat.{ℕ}
use mathlib.Core.List.{List}
use mir.Syntax.{w64}
use mir.Val.{Val, vint, vstruct, vcons, vnil}
use lib.ListN.{length}
use denote.Ref.{Bor}
use denote.Slice.{slice_val}
use Rattle.verdict.proofs.Verdict.TheLaws as D'
use Rattle.finder.specs.declared.Wanted.{Wanted}
use Rattle.finder.specs.declared.Spot.{Spot}
use Rattle.view.specs.Views.{IsMade, IsHanded, IsText}
use Rattle.view.specs.declared.Made.{Made}
use Rattle.view.specs.declared.Handed.{Handed}
use Rattle.view.proofs.Made.TheLaws as N'
use Rattle.view.proofs.Handed.TheLaws as H''

-- the machine value of a slice
abbrev pub slice : Bor (List ℕ) → Val
slice x = slice_val x.ref_ptr (length x.now)

one_slice : {block offset : ℕ} {bytes : List ℕ} (x y : Bor (List ℕ)) → (x.now ≡ bytes) × (x.ref_ptr.0 ≡ block) × (x.ref_ptr.1 ≡ offset) → (y.now ≡ bytes) × (y.ref_ptr.0 ≡ block) × (y.ref_ptr.1 ≡ offset) → slice x ≡ slice y
one_slice x y e f = λ j. slice_val ((e.1 ∙ sym f.1) j, (e.2 ∙ sym f.2) j) (length ((e.0 ∙ sym f.0) j))

pub one_made : (s : Bor (List ℕ)) (p : Spot) (x y : Made) → IsMade s p x → IsMade s p y → N'.lowered x ≡ N'.lowered y
one_made s p x y e f =
    λ j. vstruct (vcons (vstruct (vcons (one_slice x.view.file y.view.file e.0 f.0 j) (vcons (vint w64 ((e.1 ∙ sym f.1) j)) vnil))) (vcons (D'.lowered ((e.2 ∙ sym f.2) j)) vnil))

pub one_handed : (s : Bor (List ℕ)) (p : Spot) (x y : Handed) → IsHanded s p x → IsHanded s p y → H''.lowered x ≡ H''.lowered y
one_handed s p x y e f = λ j. vstruct (vcons (one_slice x.text y.text e.0 f.0 j) (vcons (D'.lowered ((e.1 ∙ sym f.1) j)) vnil))

pub one_text : (s : Bor (List ℕ)) (n : ℕ) (w : Wanted) (x y : Bor (List ℕ)) → IsText s n w x → IsText s n w y → slice x ≡ slice y
one_text s n w x y e f = one_slice x y e f
