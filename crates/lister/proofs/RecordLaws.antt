-- Records that stand in a file, A or a payment: their fields lie in it, their lines are those of the listing, and no line is longer than its
-- record.
-- The cells of a record lie in it one behind the other, so in the file too (`cells_lie`, by induction over the record's pieces). A legal record
-- is its fields laid out, and what is laid out is cut into the same fields (`cut_laid`), so what is printed of the cells is the line of the
-- listing. A line is longest where every field has its full width: 168 bytes for a payment, and 31 for each part; no payment's record has fewer
-- bytes, since it takes whole sections (`payment_wide`).
use Prim.Native.Nat.{ℕ, zero, suc, ◌+◌, ◌-◌, ◌*◌, ◌/◌, ◌≤◌}
use native.Mathlib.Omega.{arith}
use mathlib.Core.Path.{◌≡◌, refl, sym, ap, ◌∙◌}
use mathlib.Core.Bool.{Bool, true, false}
use mathlib.Core.List.{List, [], ◌∷◌, ◌++◌, append-nil}
use lib.ListN.{length, take}
use lib.Dec.{T, leb, le→leb}
use borrow.Author.Tests.{leb-true, leb-false}
use Rattle.form.specs.Kind.{every, width, numeral, blanks}
use Rattle.form.proofs.BoolLaws.{and_of}
use Rattle.document.specs.Signs.{ascii}
use Rattle.document.specs.Values.{Header, Payment}
use Rattle.document.specs.Rules.{LegalHeader, LegalPayment}
use Rattle.document.specs.Marks.{most_parts}
use Rattle.diskette.specs.Writing.{in_turn, section, to_next_part, write_header, write_payment}
use Rattle.diskette.proofs.LayoutLaws.{header_length, payment_length}
use Rattle.listing.specs.Lines.{line}
use Rattle.listing.specs.Listing.{header_fields, payment_fields, header_line, payment_line}
use Rattle.listing.specs.Records.{Piece, own, told, record_a, record_parts, record_c, fields_of_header_line, fields_with, Cell, cells, cut}
use Rattle.listing.proofs.RecordLaws.{span, cut_laid}
use Rattle.listing.proofs.HeaderLaws.{span_a, header_laid, header_formed}
use Rattle.listing.proofs.PaymentLaws.{span_c, payment_laid, payment_formed}
use Rattle.layout.specs.Widths as widths
use Rattle.layout.specs.Places as place
use Rattle.layout.specs.Cells.{cells_of}
use Rattle.layout.specs.Steps.{parts_at}
use Rattle.layout.proofs.CellLaws.{fields_first}
use Rattle.layout.proofs.StandLaws.{Stand, from_first, first_inside}
use Rattle.layout.proofs.PaymentLaws.{Begun, few, parts_there}
use Rattle.lister.specs.Printing.{line_at, Lies, Formed}
use Rattle.lister.proofs.LineLaws.{across, tabbed_across, line_long}

-- ---- the cells of a record

-- the cells lie in the file where the record does
cells_lie : (f : List ℕ) (p s : ℕ) (ps : List Piece) → p + (s + span ps) ≤ length f
    → T (every (λ (c : Cell). leb (p + (c.place + width c.kind)) (length f)) (cells s ps))
cells_lie f p s [] h = tt
cells_lie f p s (own bs ∷ ps) h = cells_lie f p (s + length bs) ps (omega arith)
cells_lie f p s (told κ ∷ ps) h =
    and_of (leb (p + (s + width κ)) (length f)) _ (le→leb (p + (s + width κ)) (length f) (omega arith)) (cells_lie f p (s + width κ) ps (omega arith))

-- ---- A

module _ (h : Header) (l : LegalHeader h) {f : List ℕ} {others : List (List ℕ)} (s : Stand f 0 (write_header h ∷ others)) where
  pub header_lies : Lies true fields_of_header_line f 0
  header_lies =
      let n = first_inside s (header_length h l) (omega arith) in
      (omega arith, cells_lie f 0 0 record_a (omega (arith, span_a)))

  pub header_line_lem : line_at true fields_of_header_line f 0 ≡ header_line h
  header_line_lem =
      let rest = in_turn others ++ s.rest in
      ap (line (ascii "A"))
      (cut_laid f 0 record_a (header_fields h) rest (header_formed h l) (from_first s refl ∙ ap (λ bs. bs ++ rest) (sym (header_laid h l))))

-- the line of A is no longer than A
pub header_short : (h : Header) → LegalHeader h → length (header_line h) ≤ length (write_header h)
header_short h l =
    let f = write_header h in
    let alone : Stand f 0 (f ∷ []) = record { rest = []; bytes = sym (append-nil (f ++ []) ∙ append-nil f) } in
    let e = ap length (header_line_lem h l alone) in
    omega (arith, line_long true fields_of_header_line f 0, tabbed_across f 0 (cells_of true), header_length h l)

-- ---- a payment

-- the most that the fields of a payment's line take: 31 bytes for each part, and 166 without them; letter and line's end take two more
parts_across : (p i k : ℕ) → across (cells p (record_parts i k)) ≡ 31 * k
parts_across p i zero = refl
parts_across p i (suc k) = omega (arith, parts_across (p + length (blanks (to_next_part i)) + widths.mark + widths.text) (suc i) k)

record_across : (k : ℕ) → across (cells 0 (record_c k)) ≡ 166 + 31 * k
unfolding numeral
record_across k = omega (arith, parts_across place.parts 0 k)

-- no payment has fewer bytes than its line can have
payment_wide : (kind : List ℕ) (q : Payment) → LegalPayment kind q → 168 + 31 * length q.parts ≤ length (write_payment q)
payment_wide kind q l = by (leb (length q.parts) 2) refl
  where
    by : (b : Bool) → leb (length q.parts) 2 ≡ b → 168 + 31 * length q.parts ≤ length (write_payment q)
    by true e =
        let s : section (length q.parts) ≡ 2 = rw e in
        omega (arith, payment_length kind q l, leb-true (length q.parts) 2 e)
    by false e =
        let s : section (length q.parts) ≡ 3 + (length q.parts - 3) / 4 = rw e in
        omega (arith, payment_length kind q l, leb-false (length q.parts) 2 e)

-- the payment q begins at p, and k is the number of parts that its C18 tells
module _ {f : List ℕ} {p : ℕ} {q : Payment} (b : Begun f p q) {k : ℕ} (count : k ≡ parts_at f p) where
  parts_are : k ≡ length q.parts
  parts_are = count ∙ parts_there b

  pub payment_few : k ≤ most_parts
  payment_few = rw parts_are (few b)

  fields_are : cells 0 (record_c (length q.parts)) ≡ take (fields_with k) (cells_of false)
  fields_are = rw parts_are (fields_first (length q.parts) (few b))

  pub payment_lies : p + length (write_payment q) ≤ length f → Lies false (fields_with k) f p
  payment_lies inside =
      let n : length (cells_of false) ≡ fields_with most_parts = refl in
      let w = payment_length b.kind q b.legal in
      let m = span_c (length q.parts) (few b) in
      (omega (arith, payment_few), rw (← fields_are) (cells_lie f p 0 (record_c (length q.parts)) (omega arith)))

  -- what is cut out of the file are the payment's fields
  payment_cut : cut f p (take (fields_with k) (cells_of false)) ≡ payment_fields q
  payment_cut =
      let rest = b.stand.rest in
      ap (cut f p) (sym fields_are)
      ∙ cut_laid f p (record_c (length q.parts)) (payment_fields q) rest (payment_formed b.kind q b.legal)
      (b.stand.bytes ∙ ap (λ bs. bs ++ rest) (sym (payment_laid b.kind q b.legal)))

  pub payment_fields_formed : Formed false (fields_with k) f p
  payment_fields_formed = rw (payment_cut, ← fields_are) (payment_formed b.kind q b.legal)

  pub payment_line_lem : line_at false (fields_with k) f p ≡ payment_line q
  payment_line_lem = ap (line (ascii "C")) payment_cut

-- the line of a payment is no longer than the payment
pub payment_short : {kind : List ℕ} (q : Payment) → LegalPayment kind q → length (payment_line q) ≤ length (write_payment q)
payment_short {kind} q l =
    let f = write_payment q in
    let alone : Begun f 0 q = record { kind = kind; legal = l; stand = record { rest = []; bytes = sym (append-nil f) } } in
    let k = length q.parts in
    let e = ap length (payment_line_lem alone (sym (parts_there alone))) in
    let a = ap across (sym (fields_first k (few alone))) ∙ record_across k in
    let t = tabbed_across f 0 (take (fields_with k) (cells_of false)) in
    omega (arith, line_long false (fields_with k) f 0, payment_wide kind q l)
