-- A line that is being printed: what the next call asks, and how far the line is behind it.
-- `Printing` is kept from the letter to the line's end: so many fields are printed, and what is still to come, written where the code stands,
-- makes the output what the whole line makes of it. A field, the numbers of a payment or a part of it have room and lie in the file (`field_may`,
-- `numbers_may`, `part_may`), and once printed they take the line on (`field_printed`, `numbers_printed`, `part_printed`). Behind the last field
-- the line's end alone is still to come, and with it the line is whole (`line_ends`).
use Prim.Native.Nat.{ℕ, ◌+◌, ◌≤◌, ◌<◌}
use native.Mathlib.Omega.{arith}
use mathlib.Core.Path.{◌≡◌, refl, ap}
use mathlib.Core.Bool.{Bool, false}
use mathlib.Core.List.{List, [], ◌∷◌, ◌++◌}
use lib.ListN.{length, take, length-take, drop_of_length-le}
use Rattle.document.specs.Marks.{most_parts}
use Rattle.listing.specs.Lines.{tab, line_end}
use Rattle.listing.specs.Records.{numbers_of_payment_line, fields_with}
use Rattle.layout.specs.Cells.{letter_of, cells_of, cell_at}
use Rattle.lister.specs.Printing.{line_at, Lies, Formed, FieldLies, printed_field, NumbersLie, numbers_at, PartLies, part_at, HasRoom, Wrote}
use Rattle.lister.specs.declared.Pen.{Pen}
use Rattle.lister.proofs.LineLaws.{tabbed, lying}
use Rattle.lister.proofs.NumberLaws.{first_full, mark_full}
use Rattle.lister.proofs.PrintLaws.{Going, going_from, going_room, going_more, going_last, rest_of, rest_field, rest_numbers, rest_part}

-- the line, of n fields, of the record at p is printed by the pen `old`; the pen `new` has printed i fields, and the next comes
pub record Printing (head : Bool) (n : ℕ) (f : List ℕ) (p : ℕ) (old new : Pen) (i : ℕ) : Type 0 where
  pub lies : Lies head n f p
  pub going : Going (rest_of head n f p) (line_at head n f p) old new i

-- behind the letter all fields are still to come
pub line_start : (head : Bool) (n : ℕ) (f : List ℕ) (p : ℕ) {old new : Pen} → Lies head n f p → HasRoom (line_at head n f p) old
    → {letter : ℕ} → letter_of head ≡ letter ∷ [] → Wrote (letter ∷ []) old new → Printing head n f p old new 0
line_start head n f p l r {letter} is w =
    record { lies = l; going = going_from (letter ∷ []) 0 (ap (λ bs. bs ++ rest_of head n f p 0) is) r w }

module _ {head : Bool} {n : ℕ} {f : List ℕ} {p : ℕ} {old mid : Pen} {i : ℕ} (w : Printing head n f p old mid i) where
  -- a field of the line lies in the file
  field_lies : (j : ℕ) → j < n → FieldLies head j f p
  field_lies j h = (lying head n f p w.lies j h (cell_at head j) refl).inside

  module _ (h : i < n) where
    pub field_may : FieldLies head i f p × HasRoom (tab ∷ printed_field head i f p) mid
    field_may = (field_lies i h, going_room w.going (tab ∷ printed_field head i f p) (i + 1) (rest_field head n f p w.lies i h))

    pub field_printed : {new : Pen} → Wrote (tab ∷ printed_field head i f p) mid new → Printing head n f p old new (i + 1)
    field_printed t =
        record { lies = w.lies; going = going_more w.going (tab ∷ printed_field head i f p) (i + 1) (rest_field head n f p w.lies i h) t }

  module _ (e : n ≤ i) where
    -- behind the last field the line's end alone is still to come
    end_comes : rest_of head n f p i ≡ (line_end ∷ []) ++ []
    end_comes =
        let few : length (take n (cells_of head)) ≤ i = omega (arith, length-take n (cells_of head)) in
        ap (λ cs. tabbed f p cs ++ (line_end ∷ [])) (drop_of_length-le (take n (cells_of head)) few)

    pub end_may : HasRoom (line_end ∷ []) mid
    end_may = omega (arith, w.going.room, ap length end_comes)

    pub line_ends : {new : Pen} → Wrote (line_end ∷ []) mid new → Wrote (line_at head n f p) old new
    line_ends t = going_last w.going (line_end ∷ []) end_comes t

-- ---- the line of a payment of k parts

module _ (k : ℕ) {f : List ℕ} {p : ℕ} {old mid : Pen} where
  module _ (w : Printing false (fields_with k) f p old mid 0) where
    pub numbers_may : Formed false (fields_with k) f p → NumbersLie f p × HasRoom (numbers_at f p) mid
    numbers_may t = (
      λ i h. let j : i < fields_with k = omega arith in (field_lies w i j, first_full (fields_with k) f p w.lies t i h j),
      going_room w.going (numbers_at f p) numbers_of_payment_line (rest_numbers (fields_with k) f p w.lies (omega arith)),
    )

    pub numbers_printed : {new : Pen} → Wrote (numbers_at f p) mid new → Printing false (fields_with k) f p old new numbers_of_payment_line
    numbers_printed t =
        let rest = rest_numbers (fields_with k) f p w.lies (omega arith) in
        record { lies = w.lies; going = going_more w.going (numbers_at f p) numbers_of_payment_line rest t }

  module _ (part : ℕ) (w : Printing false (fields_with k) f p old mid (fields_with part)) (h : part < k) where
    both : rest_of false (fields_with k) f p (fields_with part) ≡ part_at part f p ++ rest_of false (fields_with k) f p (fields_with (part + 1))
    both = rest_part (fields_with k) f p w.lies part (omega arith)

    pub part_may : Formed false (fields_with k) f p → (part < most_parts) × PartLies part f p × HasRoom (part_at part f p) mid
    part_may t =
        let mark = fields_with part in
        let most : length (cells_of false) ≡ fields_with most_parts = refl in
        let one : part < most_parts = omega (arith, w.lies.0) in
        let first : mark < fields_with k = omega arith in
        let second : mark + 1 < fields_with k = omega arith in (
          one,
          (field_lies w mark first, field_lies w (mark + 1) second, mark_full (fields_with k) f p w.lies t part one first),
          going_room w.going (part_at part f p) (fields_with (part + 1)) both,
        )

    pub part_printed : {new : Pen} → Wrote (part_at part f p) mid new → Printing false (fields_with k) f p old new (fields_with (part + 1))
    part_printed t = record { lies = w.lies; going = going_more w.going (part_at part f p) (fields_with (part + 1)) both t }
