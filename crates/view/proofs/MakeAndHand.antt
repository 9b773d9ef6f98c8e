-- What `text_of` and `verdict_of` share, which make a view and hand a text out of it: a text of a view of the file is a text of the file itself,
-- and so is its verdict.
-- The view that was made holds the first bytes of the file, up to the end of its spot. So the spot that `hand` seeks in it is `text_at`, and the
-- stretch handed out, which ends within those bytes (`locate_within`), is the same stretch of the file: the bytes by induction on where it
-- begins (`cut_inside`), the memory because the one pointer is the other moved on.
--     text_spot                 the spot of the text in the view's bytes is `text_at`
--     text_law, verdict_law     the text and the verdict, from what `make` and `hand` promise
use mathlib.Core.Path.{◌≡◌, refl, ap, ◌∙◌}
use Prim.Native.Nat.{ℕ, zero, suc, ◌+◌, ◌-◌, ◌≤◌}
use native.Mathlib.Nat.{sub-zero}
use native.Mathlib.Omega.{arith}
use mathlib.Core.List.{List, [], ◌∷◌}
use lib.ListN.{take, drop as drop_l, length-take}
use lib.Seq.{take-take}
use denote.Ref.{Bor}
use Rattle.finder.specs.Spots.{find_at, locate_at}
use Rattle.finder.specs.declared.Wanted.{Wanted}
use Rattle.finder.specs.declared.Spot.{Spot}
use Rattle.finder.proofs.SpotLaws.{locate_within}
use Rattle.view.specs.Views.{Stretch, IsMade, IsHanded, IsText, viewed, text_at, first_of, verdict_for}
use Rattle.view.specs.declared.View.{View}
use Rattle.view.specs.declared.Made.{Made}
use Rattle.view.specs.declared.Handed.{Handed}

-- where a text of the view stands
abbrev pub spot_of : View → Wanted → Spot
spot_of d w = locate_at d.file.now d.start w

-- the bytes of the view that was made
bytes_are : (s x : Bor (List ℕ)) (n : ℕ) → Stretch s 0 (find_at s.now n).to x → x.now ≡ viewed s.now n
bytes_are s x n e = e.0 ∙ ap (λ (k : ℕ). take k s.now) (sub-zero (find_at s.now n).to)

text_spot : (s : Bor (List ℕ)) (n : ℕ) (w : Wanted) (m : Made) → IsMade s (find_at s.now n) m → spot_of m.view w ≡ text_at s.now n w
text_spot s n w m e = ap (λ (b : List ℕ). locate_at b m.view.start w) (bytes_are s m.view.file n e.0) ∙ ap (λ (k : ℕ). locate_at (viewed s.now n) k w) e.1

-- a stretch of the first m bytes is one of all of them
cut_inside : (k a m : ℕ) (f : List ℕ) → a + k ≤ m → take k (drop_l a (take m f)) ≡ take k (drop_l a f)
cut_inside k zero m f h = take-take k m f (omega arith)
cut_inside k (suc a) zero f h = absurd (omega arith)
cut_inside k (suc a) (suc m) [] h = refl
cut_inside k (suc a) (suc m) (x ∷ f) h = cut_inside k a m f (omega arith)

text_cut : (f : List ℕ) (n : ℕ) (w : Wanted) → let p = text_at f n w in take (p.to - p.from) (drop_l p.from (viewed f n)) ≡ take (p.to - p.from) (drop_l p.from f)
text_cut f n w =
    let p = text_at f n w in
    let inside = locate_within (viewed f n) (find_at f n).from w in
    cut_inside (p.to - p.from) p.from (find_at f n).to f (omega (arith, inside.0, inside.1, length-take (find_at f n).to f))

pub text_law : (s : Bor (List ℕ)) (n : ℕ) (w : Wanted) (m : Made) (h : Handed) → IsMade s (find_at s.now n) m → IsHanded m.view.file (spot_of m.view w) h → IsText s n w h.text
text_law s n w m h e e' =
    let p = text_spot s n w m e in (
      e'.0.0 ∙ (λ j. take ((p j).to - (p j).from) (drop_l (p j).from (bytes_are s m.view.file n e.0 j))) ∙ text_cut s.now n w,
      e'.0.1 ∙ e.0.1,
      omega (arith, e'.0.2, e.0.2, ap (λ (z : Spot). z.from) p),
    )

pub verdict_law : (s : Bor (List ℕ)) (n : ℕ) (w : Wanted) (m : Made) (h : Handed) → IsMade s (find_at s.now n) m → IsHanded m.view.file (spot_of m.view w) h → first_of m.verdict h.verdict ≡ verdict_for s.now n w
verdict_law s n w m h e e' =
    let p = text_spot s n w m e in
    λ j. first_of (e.2 j) ((e'.1 ∙ ap (λ (z : Spot). z.verdict) p) j)
