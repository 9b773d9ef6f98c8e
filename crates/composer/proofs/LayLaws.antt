-- A record while its line's fields are put in, one after another: each puts its bytes where the record was blank.
-- `lay ps (take i ts)` is the record with its first i fields, blank where the others will stand. Cell i is looked for piece by piece, and what
-- is ahead of it stays as it is (`step`, by induction over the pieces, with `further`). At the cell stand blanks, and field i put into them
-- makes the record with one field more, be it made as wide as its cell or shorter, since the blanks behind it are there already (`fills_padded`,
-- `fills_itself`).
use Prim.Native.Nat.{ℕ, zero, suc, ◌+◌, ◌≤◌}
use native.Mathlib.Omega.{arith}
use mathlib.Core.Path.{◌≡◌, refl, sym, ap, ◌∙◌, subst}
use mathlib.Core.List.{List, [], ◌∷◌, ◌++◌}
use mathlib.Core.Option.{some}
use lib.ListN.{length, take, drop, get_elem?, length-replicate}
use Rattle.form.specs.Kind.{Kind, width, blanks}
use Rattle.listing.specs.Records.{Piece, own, told, pad, lay, Cell, cells}
use Rattle.listing.proofs.LineLaws.{pad_length}
use Rattle.listing.proofs.RecordLaws.{span, lay_length}
use Rattle.output.specs.Writing.{over, over_if_room}
use Rattle.output.proofs.OverLaws.{over_room, over_first, over_here, over_behind}

-- ---- a field put where its record is blank

-- these bytes put into w blanks make the field t as wide
abbrev pub Fills : ℕ → List ℕ → List ℕ → Type 0
Fills w bs t = (rest : List ℕ) → over 0 bs (blanks w ++ rest) ≡ pad w t ++ rest

-- a field made as wide as its blanks fills them
pub fills_padded : (w : ℕ) (t : List ℕ) → Fills w (pad w t) t
fills_padded w t rest = over_here (blanks w) (pad w t) rest (length-replicate {A = ℕ} w 0x20 ∙ sym (pad_length w t))

blanks_first : (w v : ℕ) → w ≤ v → take w (blanks v) ≡ blanks w
blanks_first zero v h = refl
blanks_first (suc w) zero h = absurd (omega arith)
blanks_first (suc w) (suc v) h = ap (λ (l : List ℕ). 0x20 ∷ l) (blanks_first w v (omega arith))

blanks_behind : (w v : ℕ) (t rest : List ℕ) → length t ≤ w → w ≤ v → t ++ drop (length t) (blanks w ++ rest) ≡ take w (t ++ blanks v) ++ rest
blanks_behind w v [] rest h g = ap (λ (l : List ℕ). l ++ rest) (sym (blanks_first w v g))
blanks_behind zero v (b ∷ t) rest h g = absurd (omega arith)
blanks_behind (suc w) v (b ∷ t) rest h g = ap (λ (l : List ℕ). b ∷ l) (blanks_behind w v t rest (omega arith) (omega arith))

-- a field that is no wider than its blanks fills them
pub fills_itself : (w : ℕ) (t : List ℕ) → length t ≤ w → Fills w t t
fills_itself w t h rest = over_first t (blanks w ++ rest) ∙ blanks_behind w w t rest h (omega arith)

-- ---- one field more

-- in the pieces from place p of a record on, cell i stands at an offset, and the bytes bs of field i put there make one field more
record Step (p : ℕ) (ps : List Piece) (ts : List (List ℕ)) (i : ℕ) (c : Cell) (bs : List ℕ) : Type 0 where
  offset : ℕ
  place : c.place ≡ p + offset
  inside : offset + width c.kind ≤ span ps
  put : over offset bs (lay ps (take i ts)) ≡ lay ps (take (suc i) ts)

-- what is written behind a first piece leaves it as it was
further : (n o : ℕ) (a bs old new : List ℕ) → length a ≡ n → over o bs old ≡ new → over (n + o) bs (a ++ old) ≡ a ++ new
further n o a bs old new l e = rw (← l, over_behind o a bs old, e)

first : (p : ℕ) (κ : Kind) (ps : List Piece) (bs t : List ℕ) (ts : List (List ℕ)) → Fills (width κ) bs t
    → Step p (told κ ∷ ps) (t ∷ ts) 0 (record { place = p; kind = κ }) bs
first p κ ps bs t ts fills = record { offset = 0; place = omega arith; inside = omega arith; put = fills (lay ps []) }

step : (p : ℕ) (ps : List Piece) (ts : List (List ℕ)) (i : ℕ) (c : Cell) (bs t : List ℕ) → get_elem? (cells p ps) i ≡ some c → get_elem? ts i ≡ some t
    → Fills (width c.kind) bs t → Step p ps ts i c bs
step p [] ts i c bs t e f fills = absurd cc
step p (own o ∷ ps) ts i c bs t e f fills =
    let s = step (p + length o) ps ts i c bs t e f fills in
    record {
      offset = length o + s.offset;
      place = omega (arith, s.place);
      inside = omega (arith, s.inside);
      put = further (length o) s.offset o bs _ _ refl s.put;
    }
step p (told κ ∷ ps) [] i c bs t e f fills = absurd cc
step p (told κ ∷ ps) (u ∷ us) zero c bs t e f fills =
    let x : record { place = p; kind = κ } ≡ c = cc in
    let y : t ≡ u = cc in
    subst (λ c. Fills (width c.kind) bs t → Step p (told κ ∷ ps) (u ∷ us) 0 c bs) x
    (λ g. first p κ ps bs u us (subst (Fills (width κ) bs) y g)) fills
step p (told κ ∷ ps) (u ∷ us) (suc i) c bs t e f fills =
    let s = step (p + width κ) ps us i c bs t e f fills in
    record {
      offset = width κ + s.offset;
      place = omega (arith, s.place);
      inside = omega (arith, s.inside);
      put = further (width κ) s.offset (pad (width κ) u) bs _ _ (pad_length (width κ) u) s.put;
    }

-- field i put where cell i stands
module _ (ps : List Piece) (ts : List (List ℕ)) (i : ℕ) (c : Cell) (t : List ℕ) (e : get_elem? (cells 0 ps) i ≡ some c) (f : get_elem? ts i ≡ some t) where
  -- there is room for field i
  pub lay_room : c.place + width c.kind ≤ length (lay ps (take i ts))
  lay_room =
      let w = width c.kind in
      let s = step 0 ps ts i c (pad w t) t e f (fills_padded w t) in
      omega (arith, s.place, s.inside, lay_length ps (take i ts))

  pub lay_over : (bs : List ℕ) → Fills (width c.kind) bs t → over c.place bs (lay ps (take i ts)) ≡ lay ps (take (suc i) ts)
  lay_over bs fills =
      let s = step 0 ps ts i c bs t e f fills in
      let o : c.place ≡ s.offset = omega (arith, s.place) in
      rw o s.put

  -- field i made as wide as its cell
  pub lay_step : over_if_room c.place (pad (width c.kind) t) (lay ps (take i ts)) ≡ lay ps (take (suc i) ts)
  lay_step =
      let w = width c.kind in
      over_room c.place (pad w t) (lay ps (take i ts)) (omega (arith, lay_room, pad_length w t)) ∙ lay_over (pad w t) (fills_padded w t)
