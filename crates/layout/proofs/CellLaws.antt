-- The fields of a line, told by tables: those of A, the first twelve of a C, and the mark and the text of each part.
-- All are few, so that each table and each formula is held against the definition by computing every entry (`agree`): 8 fields of A, 12 of a C,
-- and the marks and texts of 15 parts. Behind the twelve, the number of a field tells its part by halving: even is the mark, odd the text
-- (`mark_of_part`, `text_of_part`). All this is said of the longest C; a C of fewer parts has the first of these fields, by induction over the
-- parts (`fields_first`).
use Prim.Native.Nat.{ℕ, zero, suc, ◌+◌, ◌-◌, ◌*◌, ◌/◌, ◌%◌, ◌≤◌, ◌<◌}
use native.Mathlib.Omega.{arith}
use mathlib.Core.Path.{◌≡◌, refl, sym, ap, ap₂, subst, ◌∙◌}
use mathlib.Core.Bool.{Bool, true, false}
use mathlib.Core.List.{List, [], ◌∷◌}
use mathlib.Core.Option.{none}
use lib.ListN.{length, get_or, get_elem?, take}
use lib.Dec.{leb, eqb}
use borrow.Author.Tests.{leb-true}
use Rattle.form.specs.Kind.{numeral}
use Rattle.form.proofs.BelowLaws.{below, agree}
use Rattle.diskette.specs.Writing.{to_section_end, to_next_part}
use Rattle.listing.specs.Records.{record_parts, record_c, cells}
use Rattle.layout.specs.declared.Cell.{Cell}
use Rattle.layout.specs.declared.tables.Span.{Span}
use Rattle.layout.specs.Cells.{letter_of, record_of, cell_of, cells_of, cell_at}

-- the letter of a line is one byte
pub letter_long : (head : Bool) → length (letter_of head) ≡ 1
letter_long true = refl
letter_long false = refl

-- a list has no element from its length on
pub beyond : {X : Type 0} (l : List X) (i : ℕ) → length l ≤ i → get_elem? l i ≡ none
beyond [] i h = refl
beyond (x ∷ xs) zero h = absurd (omega arith)
beyond (x ∷ xs) (suc i) h = beyond xs i (omega arith)

-- a row of the code's tables: a field's place and width
abbrev span : ℕ → ℕ → Span
span p w = record { place = p; width = w }

-- ---- A

-- row i of the code's table of A
abbrev span_of_a : ℕ → Span
span_of_a i = get_or (span 5 2 ∷ span 7 8 ∷ span 15 8 ∷ span 23 27 ∷ span 50 6 ∷ span 60 10 ∷ span 70 10 ∷ span 95 8 ∷ []) i (span 0 0)

-- field i of the line of A by the code's table
abbrev pub field_of_a : ℕ → Cell
field_of_a i =
    record {
      place = (span_of_a i).place;
      width = (span_of_a i).width;
      text = eqb i 3;
      optional = eqb i 7;
    }

pub fields_of_a_lem : (i : ℕ) → i < 8 → field_of_a i ≡ cell_at true i
unfolding below
fields_of_a_lem i h = agree field_of_a (cell_at true) 8 i refl h

-- what stands in the code's table for field i of A is that field
pub entries_of_a : (i p w : ℕ) → i < 8 → p ≡ (field_of_a i).place → w ≡ (field_of_a i).width
    → record { place = p; width = w; text = eqb i 3; optional = eqb i 7 } ≡ cell_at true i
entries_of_a i p w h e f = ap₂ (λ (x y : ℕ). record { place = x; width = y; text = eqb i 3; optional = eqb i 7 }) e f ∙ fields_of_a_lem i h

pub none_behind_a : (i : ℕ) → 8 ≤ i → record { place = 0; width = 0; text = false; optional = false } ≡ cell_at true i
none_behind_a i h = sym (ap cell_of (beyond (cells 0 (record_of true 15)) i h))

-- ---- C

-- row i of the code's table of C
abbrev span_of_c : ℕ → Span
span_of_c i =
    get_or
    (span 5 8 ∷ span 13 8 ∷ span 21 10 ∷ span 31 13 ∷ span 44 2 ∷ span 46 3 ∷ span 61 8 ∷ span 69 10 ∷ span 79 11 ∷ span 93 27 ∷ span 128 27 ∷ span 155 27 ∷ [])
    i (span 0 0)

-- field i of the line of a C, one of the first twelve, by the code's table
abbrev pub field_of_c : ℕ → Cell
field_of_c i =
    record {
      place = (span_of_c i).place;
      width = (span_of_c i).width;
      text = leb 9 i;
      optional = false;
    }

pub fields_of_c_lem : (i : ℕ) → i < 12 → field_of_c i ≡ cell_at false i
unfolding below numeral to_section_end to_next_part
fields_of_c_lem i h = agree field_of_c (cell_at false) 12 i refl h

-- what stands in the code's table for field i of a C is that field
pub entries_of_c : (i p w : ℕ) → i < 12 → p ≡ (field_of_c i).place → w ≡ (field_of_c i).width
    → record { place = p; width = w; text = leb 9 i; optional = false } ≡ cell_at false i
entries_of_c i p w h e f = ap₂ (λ (x y : ℕ). record { place = x; width = y; text = leb 9 i; optional = false }) e f ∙ fields_of_c_lem i h

pub none_behind_c : (i : ℕ) → 42 ≤ i → record { place = 0; width = 0; text = false; optional = false } ≡ cell_at false i
unfolding numeral to_section_end to_next_part
none_behind_c i h = sym (ap cell_of (beyond (cells 0 (record_of false 15)) i h))

-- ---- the parts

-- where the mark of part k stands, from 0
abbrev pub mark : ℕ → ℕ
mark k = (cell_at false (12 + 2 * k)).place

-- there is no mark behind the last part
pub no_mark : (k : ℕ) → 15 ≤ k → 0 ≡ mark k
no_mark k h = ap (λ (c : Cell). c.place) (none_behind_c (12 + 2 * k) (omega arith))

-- the second section takes 2 parts, the third to fifth 4 each, the sixth 1
pub marks_of_second : (k : ℕ) → k < 2 → 187 + 29 * k ≡ mark k
unfolding below numeral to_section_end to_next_part
marks_of_second k h = agree (λ k. 187 + 29 * k) mark 2 k refl h

pub marks_behind : (k : ℕ) → 2 ≤ k → k ≤ 14 → 256 + 128 * ((k - 2) / 4) + 29 * ((k - 2) % 4) ≡ mark k
unfolding below numeral to_section_end to_next_part
marks_behind k l h =
    let e : 2 + (k - 2) ≡ k = omega arith in
    agree (λ j. 256 + 128 * (j / 4) + 29 * (j % 4)) (λ j. mark (2 + j)) 13 (k - 2) refl (omega arith) ∙ ap mark e

abbrev pub mark_at : ℕ → Cell
mark_at p = record { place = p; width = 2; text = false; optional = false }

abbrev pub text_at : ℕ → Cell
text_at p = record { place = p; width = 27; text = true; optional = false }

module _ (k : ℕ) (h : k < 15) where
  mark_cell : mark_at (mark k) ≡ cell_at false (12 + 2 * k)
  unfolding below numeral to_section_end to_next_part
  mark_cell = agree (λ k. mark_at (mark k)) (λ k. cell_at false (12 + 2 * k)) 15 k refl h

  text_cell : text_at (mark k + 2) ≡ cell_at false (13 + 2 * k)
  unfolding below numeral to_section_end to_next_part
  text_cell = agree (λ k. text_at (mark k + 2)) (λ k. cell_at false (13 + 2 * k)) 15 k refl h

  pub mark_below : mark k ≤ 768
  unfolding below numeral to_section_end to_next_part
  mark_below = leb-true (mark k) 768 (agree (λ k. leb (mark k) 768) (λ k. true) 15 k refl h)

-- field i belongs to a part, whose mark stands at m
module _ (i m : ℕ) (l : 12 ≤ i) (h : i < 42) (e : m ≡ mark ((i - 12) / 2)) where
  pub mark_inside : m ≤ 768
  mark_inside = rw e (mark_below ((i - 12) / 2) (omega arith))

  pub mark_of_part : (i - 12) % 2 ≡ 0 → mark_at m ≡ cell_at false i
  mark_of_part even =
      let s : 12 + 2 * ((i - 12) / 2) ≡ i = omega arith in
      ap mark_at e ∙ mark_cell ((i - 12) / 2) (omega arith) ∙ ap (cell_at false) s

  pub text_of_part : ((i - 12) % 2 ≡ 0 → ⊥) → text_at (m + 2) ≡ cell_at false i
  text_of_part odd =
      let s : 13 + 2 * ((i - 12) / 2) ≡ i = omega arith in
      ap (λ (n : ℕ). text_at (n + 2)) e ∙ text_cell ((i - 12) / 2) (omega arith) ∙ ap (cell_at false) s

-- ---- a C of k parts

parts_first : (k more p i : ℕ) → cells p (record_parts i k) ≡ take (2 * k) (cells p (record_parts i (k + more)))
parts_first zero more p i = refl
parts_first (suc k) more p i =
    let two : 2 * suc k ≡ suc (suc (2 * k)) = omega arith in
    let all : suc k + more ≡ suc (k + more) = omega arith in
    rw (two, all, parts_first k more _ (suc i))

-- a C of k parts has the first of the fields that the longest C has
pub fields_first : (k : ℕ) → k ≤ 15 → cells 0 (record_c k) ≡ take (12 + 2 * k) (cells_of false)
unfolding numeral
fields_first k h =
    let twelve : 12 + 2 * k ≡ suc (suc (suc (suc (suc (suc (suc (suc (suc (suc (suc (suc (2 * k)))))))))))) = omega arith in
    let all : k + (15 - k) ≡ 15 = omega arith in
    let parts = subst (λ n. cells 187 (record_parts 0 k) ≡ take (2 * k) (cells 187 (record_parts 0 n))) all (parts_first k (15 - k) 187 0) in
    rw (twelve, parts)
