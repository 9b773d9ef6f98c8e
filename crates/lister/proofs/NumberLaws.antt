-- Numbers of a payment: where the fields have the width that a line gives them, a number stands in full.
use Prim.Native.Nat.{ℕ, zero, suc, ◌+◌, ◌≤◌, ◌<◌}
use native.Mathlib.Omega.{arith}
use mathlib.Core.Path.{◌≡◌, refl, subst}
use mathlib.Core.Bool.{false, not}
use mathlib.Core.List.{List, [], ◌∷◌}
use lib.ListN.{length, take, drop, get_elem?}
use lib.Dec.{T, eqb→eq}
use Rattle.form.specs.Kind.{Kind, fixed, digits, maybe, text, choice, width, numeral}
use Rattle.form.proofs.BelowLaws.{below, agree}
use Rattle.form.proofs.BoolLaws.{and_both}
use Rattle.document.specs.Marks.{most_parts}
use Rattle.diskette.specs.Writing.{to_section_end, to_next_part}
use Rattle.listing.specs.Lines.{trim, ends_in_blank}
use Rattle.listing.specs.Records.{numbers_of_payment_line, fields_with, Cell, cut, wide, field_formed, formed}
use Rattle.layout.specs.declared.Cell.{Cell as CodeCell}
use Rattle.layout.specs.Cells.{cells_of, is_text, is_optional, cell_of, cell_at}
use Rattle.lister.specs.Printing.{Lies, Formed, printed_cell, printed_field}

-- a field that is no text and may not be absent
abbrev IsNumber : CodeCell → Type 0
IsNumber c = (c.text ≡ false) × (c.optional ≡ false)

wide_full : (κ : Kind) (n : ℕ) → is_text κ ≡ false → is_optional κ ≡ false → T (wide κ n) → n ≡ width κ
wide_full (fixed bs) n s o t = eqb→eq n (length bs) t
wide_full (digits w) n s o t = eqb→eq n w t
wide_full (maybe w) n s o t = absurd (subst T o tt)
wide_full (text sign w) n s o t = absurd (subst T s tt)
wide_full (choice w words) n s o t = eqb→eq n w t

cells_full : (f : List ℕ) (p : ℕ) (cs : List Cell) (n i : ℕ) → i < n → n ≤ length cs → T (formed (take n cs) (cut f p (take n cs)))
    → IsNumber (cell_of (get_elem? cs i)) → length (printed_cell (cell_of (get_elem? cs i)) f p) ≡ (cell_of (get_elem? cs i)).width
cells_full f p [] n i h l t k = absurd (omega arith)
cells_full f p (c ∷ cs) zero i h l t k = absurd (omega arith)
cells_full f p (c ∷ cs) (suc n) zero h l t k =
    let field = trim (take (width c.kind) (drop (p + c.place) f)) in
    let b = (and_both (field_formed c.kind field) _ t).0 in
    wide_full c.kind (length field) k.0 k.1 (and_both (wide c.kind (length field)) (not (ends_in_blank field)) b).0
cells_full f p (c ∷ cs) (suc n) (suc i) h l t k =
    let field = trim (take (width c.kind) (drop (p + c.place) f)) in
    cells_full f p cs n i (omega arith) (omega arith) (and_both (field_formed c.kind field) _ t).1 k

-- the first fields of a C, and the mark of each part
first_numbers : (i : ℕ) → i < numbers_of_payment_line → IsNumber (cell_at false i)
unfolding below numeral to_section_end to_next_part
first_numbers i h = (agree (λ i. (cell_at false i).text) (λ i. false) numbers_of_payment_line i refl h, agree (λ i. (cell_at false i).optional) (λ i. false) numbers_of_payment_line i refl h)

marks : (k : ℕ) → k < most_parts → IsNumber (cell_at false (fields_with k))
unfolding below numeral to_section_end to_next_part
marks k h =
    (agree (λ k. (cell_at false (fields_with k)).text) (λ k. false) most_parts k refl h, agree (λ k. (cell_at false (fields_with k)).optional) (λ k. false) most_parts k refl h)

module _ (n : ℕ) (f : List ℕ) (p : ℕ) (l : Lies false n f p) (t : Formed false n f p) where
  pub first_full : (i : ℕ) → i < numbers_of_payment_line → i < n → length (printed_field false i f p) ≡ (cell_at false i).width
  first_full i h k = cells_full f p (cells_of false) n i k l.0 t (first_numbers i h)

  pub mark_full : (k : ℕ) → k < most_parts → fields_with k < n → length (printed_field false (fields_with k) f p) ≡ (cell_at false (fields_with k)).width
  mark_full k h j = cells_full f p (cells_of false) n (fields_with k) j l.0 t (marks k h)
