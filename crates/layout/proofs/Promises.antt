-- What the layout is proved against: the records as they are written, the records that lines stand for, and the lines. The code's constants are
-- the layout's by the contracts of `src/listed.rt`.
use Prim.Native.Nat.{ℕ, ◌+◌}
use native.Mathlib.Omega.{arith}
use mathlib.Core.Path.{◌≡◌, refl}
use mathlib.Core.Bool.{false}
use mathlib.Core.List.{List, [], ◌∷◌, map}
use lib.ListN.{length, take}
use Rattle.form.specs.Kind.{width, numeral}
use Rattle.form.proofs.KindLaws.{numeral_length}
use Rattle.document.specs.Values.{Header, Payment, Totals}
use Rattle.document.specs.Rules.{LegalHeader, LegalPayment}
use Rattle.document.proofs.FieldLaws.{kind_length}
use Rattle.diskette.specs.Writing.{length_of, fields_of_a, fields_of_c, fields_of_e}
use Rattle.diskette.proofs.LayoutLaws.{execution_length}
use Rattle.listing.specs.Listing.{header_fields, payment_fields}
use Rattle.listing.specs.Records.{Piece, own, told, record_a, record_c, fields_of_header_line, numbers_of_payment_line, fields_with, Cell}
use Rattle.listing.proofs.PaymentLaws.{part_fields_lem}
use Rattle.layout.specs.Widths.{widths_of_a, widths_of_c, widths_of_e}
use Rattle.layout.specs.Places.{places_of_a, places_of_c, places_of_e}
use Rattle.layout.specs.Lines.{first, numbers_of_line}
use Rattle.layout.specs.Cells.{cells_of}

-- ---- the written records

pub written_a : (h : Header) → LegalHeader h → map length (fields_of_a h) ≡ widths_of_a
written_a h l =
    simp (numeral_length, execution_length) (rw (kind_length h.file_kind l.A3, l.A6.long))

-- C1 to C18; the parts follow
pub written_c : (kind : List ℕ) (p : Payment) → LegalPayment kind p
    → map length (numeral 4 (length_of (length p.parts)) ∷ take 20 (fields_of_c p)) ≡ widths_of_c
written_c kind p l = simp numeral_length (rw (l.C14a.long, l.C15.long, l.C16.long))

pub written_e : (t : Totals) → map length (numeral 4 128 ∷ fields_of_e t) ≡ widths_of_e
written_e t = simp numeral_length refl

-- ---- each field behind the one before it

abbrev behind_each : ℕ → List ℕ → List ℕ
behind_each p [] = []
behind_each p (w ∷ ws) = p ∷ behind_each (p + w) ws

pub places_a : behind_each 0 widths_of_a ≡ places_of_a
places_a = refl

pub places_c : behind_each 0 widths_of_c ≡ places_of_c
places_c = refl

pub places_e : behind_each 0 widths_of_e ≡ places_of_e
places_e = refl

-- ---- the records that lines stand for

abbrev widths : List Piece → List ℕ
widths [] = []
widths (own bs ∷ ps) = length bs ∷ widths ps
widths (told κ ∷ ps) = width κ ∷ widths ps

pub laid_a : widths record_a ≡ widths_of_a
laid_a = refl

-- C1 to C18 of the record, whatever the number of parts
pub laid_c : (k : ℕ) → take 21 (widths (record_c k)) ≡ widths_of_c
unfolding numeral
laid_c k = refl

-- ---- the lines

-- fields of full width, the first at q, and a tab between them
abbrev behind_tabs : ℕ → List Cell → List ℕ
behind_tabs q [] = []
behind_tabs q (c ∷ cs) = q ∷ behind_tabs (q + width c.kind + 1) cs

pub numbers_of_line_lem : behind_tabs first (take numbers_of_payment_line (cells_of false)) ≡ numbers_of_line
unfolding numeral
numbers_of_line_lem = refl

pub header_counted : (h : Header) → length (header_fields h) ≡ fields_of_header_line
header_counted h = refl

pub payment_counted : (p : Payment) → length (payment_fields p) ≡ fields_with (length p.parts)
payment_counted p = let h = part_fields_lem p.parts in omega arith
