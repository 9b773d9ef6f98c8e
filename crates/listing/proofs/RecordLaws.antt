-- Records laid out from the fields of a line: how long they are, and that cutting them up gives the fields back.
use Prim.Native.Nat.{ℕ, suc, ◌+◌, ◌≤◌}
use native.Mathlib.Nat.{add_assoc}
use native.Mathlib.Omega.{arith}
use mathlib.Core.Path.{◌≡◌, refl, sym, ap, ap₂, ◌∙◌}
use mathlib.Core.Logic.{inl, inr}
use mathlib.Core.Bool.{not}
use mathlib.Core.List.{List, [], ◌∷◌, ◌++◌, append_assoc, append-nil}
use lib.ListN.{length, take, drop, length-append, length-replicate}
use lib.Seq.{take_at, drop_at, drop-drop}
use lib.Dec.{T, eqb, eqb→eq, leb→le}
use Rattle.form.specs.Kind.{Kind, fixed, digits, maybe, text, choice, width, blanks}
use Rattle.form.proofs.BoolLaws.{and_both, or_cases}
use Rattle.listing.specs.Lines.{trim, ends_in_blank}
use Rattle.listing.specs.Records.{Piece, own, told, pad, lay, Cell, cells, cut, wide, field_formed, formed}
use Rattle.listing.proofs.LineLaws.{pad_length, trim_pad}

-- ---- lengths

-- the bytes that the pieces take
abbrev pub span : List Piece → ℕ
span [] = 0
span (own bs ∷ ps) = length bs + span ps
span (told κ ∷ ps) = width κ + span ps

pub lay_length : (ps : List Piece) (ts : List (List ℕ)) → length (lay ps ts) ≡ span ps
lay_length [] ts = refl
lay_length (own bs ∷ ps) ts = length-append bs (lay ps ts) ∙ ap (λ (n : ℕ). length bs + n) (lay_length ps ts)
lay_length (told κ ∷ ps) [] = length-append (blanks (width κ)) (lay ps []) ∙ ap₂ ◌+◌ (length-replicate {A = ℕ} (width κ) 0x20) (lay_length ps [])
lay_length (told κ ∷ ps) (t ∷ ts) = length-append (pad (width κ) t) (lay ps ts) ∙ ap₂ ◌+◌ (pad_length (width κ) t) (lay_length ps ts)

pub formed_length : (cs : List Cell) (ts : List (List ℕ)) → T (formed cs ts) → length cs ≡ length ts
formed_length [] [] f = refl
formed_length [] (t ∷ ts) f = absurd f
formed_length (c ∷ cs) [] f = absurd f
formed_length (c ∷ cs) (t ∷ ts) f = ap suc (formed_length cs ts (and_both (field_formed c.kind t) (formed cs ts) f).1)

-- a field of the form has room in its record
wide_room : (κ : Kind) (n : ℕ) → T (wide κ n) → n ≤ width κ
wide_room (fixed bs) n h = omega (arith, eqb→eq n (length bs) h)
wide_room (digits w) n h = omega (arith, eqb→eq n w h)
wide_room (maybe w) n h =
    elim (or_cases (eqb n 0) (eqb n w) h) [ inl e ↦ omega (arith, eqb→eq n 0 e) | inr e ↦ omega (arith, eqb→eq n w e) ]
wide_room (text sign w) n h = leb→le n w h
wide_room (choice w words) n h = omega (arith, eqb→eq n w h)

-- a record begins with its first piece
pub lay_first : (n : ℕ) (bs : List ℕ) (ps : List Piece) (ts : List (List ℕ)) → length bs ≡ n → take n (lay (own bs ∷ ps) ts) ≡ bs
lay_first n bs ps ts e = take_at bs (lay ps ts) n e

-- ---- the fields come back

-- what stands in a record behind n bytes that stand at s
further : (f : List ℕ) (p s n : ℕ) (front back rest : List ℕ) → length front ≡ n → drop (p + s) f ≡ (front ++ back) ++ rest
    → drop (p + (s + n)) f ≡ back ++ rest
further f p s n front back rest l e =
    rw (← add_assoc p s n, ← drop-drop n (p + s) f) (ap (drop n) (e ∙ append_assoc front back rest) ∙ drop_at front (back ++ rest) n l)

-- the pieces from place s of a record on are cut into the fields that they were laid out from
cut_from : (f : List ℕ) (p s : ℕ) (ps : List Piece) (ts : List (List ℕ)) (rest : List ℕ) → T (formed (cells s ps) ts)
    → drop (p + s) f ≡ lay ps ts ++ rest → cut f p (cells s ps) ≡ ts
cut_from f p s [] [] rest h e = refl
cut_from f p s [] (t ∷ ts) rest h e = absurd h
cut_from f p s (own bs ∷ ps) ts rest h e =
    cut_from f p (s + length bs) ps ts rest h (further f p s (length bs) bs (lay ps ts) rest refl e)
cut_from f p s (told κ ∷ ps) [] rest h e = absurd h
cut_from f p s (told κ ∷ ps) (t ∷ ts) rest h e =
    let w = width κ in
    let b = and_both (field_formed κ t) (formed (cells (s + w) ps) ts) h in
    let g = and_both (wide κ (length t)) (not (ends_in_blank t)) b.0 in
    let first : take w (drop (p + s) f) ≡ pad w t
    = ap (take w) (e ∙ append_assoc (pad w t) (lay ps ts) rest) ∙ take_at (pad w t) (lay ps ts ++ rest) w (pad_length w t) in
    let others = further f p s w (pad w t) (lay ps ts) rest (pad_length w t) e in
    ap₂ ◌∷◌ (ap trim first ∙ trim_pad w t g.1 (wide_room κ (length t) g.0)) (cut_from f p (s + w) ps ts rest b.1 others)

-- a record that stands at p is cut up into the fields that it was laid out from
pub cut_laid : (f : List ℕ) (p : ℕ) (ps : List Piece) (ts : List (List ℕ)) (rest : List ℕ) → T (formed (cells 0 ps) ts)
    → drop p f ≡ lay ps ts ++ rest → cut f p (cells 0 ps) ≡ ts
cut_laid f p ps ts rest h e = let z : p + 0 ≡ p = omega arith in cut_from f p 0 ps ts rest h (rw z e)

-- a record that begins with what was laid out from fields was laid out from these
pub lay_begins : (ps : List Piece) (ts us : List (List ℕ)) (rest : List ℕ) → T (formed (cells 0 ps) ts) → T (formed (cells 0 ps) us)
    → lay ps ts ≡ lay ps us ++ rest → ts ≡ us
lay_begins ps ts us rest h k e = sym (cut_laid (lay ps ts) 0 ps ts [] h (sym (append-nil (lay ps ts)))) ∙ cut_laid (lay ps ts) 0 ps us rest k e
