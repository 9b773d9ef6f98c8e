-- A part of a payment: mark and text stand side by side, and one is printed behind the other.
use Prim.Native.Nat.{ℕ, ◌+◌, ◌-◌, ◌≤◌, ◌<◌}
use native.Mathlib.Omega.{arith}
use mathlib.Core.Path.{◌≡◌, refl, sym, ap, ap₂, subst, ◌∙◌}
use mathlib.Core.Bool.{false}
use mathlib.Core.List.{List, ◌∷◌, append-nil}
use lib.ListN.{length, take, drop, length-append}
use Rattle.form.specs.Kind.{numeral}
use Rattle.form.proofs.BelowLaws.{below, agree}
use Rattle.document.specs.Marks.{most_parts}
use Rattle.diskette.specs.Writing.{to_section_end, to_next_part}
use Rattle.listing.specs.Lines.{tab, trim}
use Rattle.listing.specs.Records.{fields_with}
use Rattle.layout.specs.Widths as width
use Rattle.layout.specs.declared.Cell.{Cell as CodeCell}
use Rattle.layout.specs.Cells.{cell_at}
use Rattle.lister.specs.Printing.{printed_field, PartLies, part_at, HasRoom, Wrote}
use Rattle.lister.specs.declared.Pen.{Pen}
use Rattle.lister.proofs.PrintLaws.{bytes_are, cell_printed, cell_full, Going, going_from, going_last}

module _ (part : ℕ) (h : part < most_parts) where
  mark_width : (cell_at false (fields_with part)).width ≡ width.mark
  unfolding below numeral to_section_end to_next_part
  mark_width = agree (λ k. (cell_at false (fields_with k)).width) (λ k. width.mark) most_parts part refl h

  text_width_lem : (cell_at false (fields_with part + 1)).width ≡ width.text
  unfolding below numeral to_section_end to_next_part
  text_width_lem = agree (λ k. (cell_at false (fields_with k + 1)).width) (λ k. width.text) most_parts part refl h

  text_place : (cell_at false (fields_with part + 1)).place ≡ (cell_at false (fields_with part)).place + width.mark
  unfolding below numeral to_section_end to_next_part
  text_place = agree (λ k. (cell_at false (fields_with k + 1)).place) (λ k. (cell_at false (fields_with k)).place + width.mark) most_parts part refl h

  -- the code has the cell of the mark
  module _ (f : List ℕ) (p : ℕ) (l : PartLies part f p) {c : CodeCell} (e : c ≡ cell_at false (fields_with part)) where
    abbrev a : ℕ
    a = p + c.place

    place_is : c.place ≡ (cell_at false (fields_with part)).place
    place_is = ap (λ (x : CodeCell). x.place) e

    pub part_inside : a + width.mark + width.text ≤ length f
    part_inside = omega (arith, l.1, text_width_lem, text_place, place_is)

    mark_bytes : take (a + width.mark - a) (drop a f) ≡ printed_field false (fields_with part) f p
    mark_bytes =
        let two : width.mark ≡ c.width = sym (ap (λ (x : CodeCell). x.width) e ∙ mark_width) in
        bytes_are a c.width f (two ∙ cell_full false (fields_with part) f p e l.2) ∙ cell_printed false (fields_with part) f p e

    text_bytes : trim (take width.text (drop (a + width.mark) f)) ≡ printed_field false (fields_with part + 1) f p
    text_bytes =
        let place : a + width.mark ≡ p + (cell_at false (fields_with part + 1)).place = omega (arith, text_place, place_is) in
        ap₂ (λ w j. trim (take w (drop j f))) (sym text_width_lem) place

    abbrev mark : List ℕ
    mark = tab ∷ printed_field false (fields_with part) f p

    abbrev words : List ℕ
    words = tab ∷ printed_field false (fields_with part + 1) f p

    -- there is room for both
    module _ (old : Pen) (r : HasRoom (part_at part f p) old) where
      pub mark_room : HasRoom (tab ∷ take (a + width.mark - a) (drop a f)) old
      mark_room = omega (arith, r, ap length mark_bytes, length-append mark words)

      -- the mark is printed
      module _ {mid : Pen} (w : Wrote (tab ∷ take (a + width.mark - a) (drop a f)) old mid) where
        marked : Going (λ (i : ℕ). words) (part_at part f p) old mid 0
        marked = going_from mark 0 refl r (subst (λ bs. Wrote (tab ∷ bs) old mid) mark_bytes w)

        pub text_room : HasRoom (tab ∷ trim (take width.text (drop (a + width.mark) f))) mid
        text_room = omega (arith, ap length text_bytes, marked.room)

        pub both_printed : {new : Pen} → Wrote (tab ∷ trim (take width.text (drop (a + width.mark) f))) mid new → Wrote (part_at part f p) old new
        both_printed {new} t = going_last marked words (sym (append-nil words)) (subst (λ bs. Wrote (tab ∷ bs) mid new) text_bytes t)
