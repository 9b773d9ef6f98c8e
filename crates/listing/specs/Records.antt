-- The records that lines stand for: which bytes of a record are a field of its line, and which it has of its own.
use Rattle.std.specs.Prelude.{ℕ, zero, suc, ◌+◌, ◌-◌, ◌*◌, ◌/◌, min, Bool, true, false, ◌&&◌, ◌||◌, not, cond, List, [], ◌∷◌, ◌++◌, length, take, drop, leb, eqb}
use Rattle.form.specs.Kind.{Kind, fixed, digits, maybe, text, choice, width, numeral, blanks}
use Rattle.document.specs.Signs.{ascii, zeros}
use Rattle.document.specs.Rules.{file_kinds}
use Rattle.document.specs.Marks.{most_parts}
use Rattle.diskette.specs.Writing.{to_section_end, to_next_part, length_of}
use Rattle.diskette.specs.Fields.{text27}
use Rattle.listing.specs.Lines.{trim, ends_in_blank}

pub data Piece : Type 0 where
  own : List ℕ → Piece  -- bytes that no line tells: they are made
  told : Kind → Piece  -- the next field of the line

-- ---- A

abbrev pub record_a : List Piece
record_a =
    own (ascii "0128")  -- A1
    ∷ own (ascii "A")  -- A2
    ∷ told (choice 2 file_kinds)  -- A3
    ∷ told (digits 8)  -- A4
    ∷ told (digits 8)  -- A5
    ∷ told text27  -- A6
    ∷ told (digits 6)  -- A7
    ∷ own (blanks 4)  -- A8
    ∷ told (digits 10)  -- A9
    ∷ told (digits 10)  -- A10
    ∷ own (blanks 15)  -- A11a
    ∷ told (maybe 8)  -- A11b
    ∷ own (blanks 24)  -- A11c
    ∷ own (ascii "1")  -- A12
    ∷ []

-- ---- C

-- the parts behind part i, so many as are left, and the blanks that close each section
abbrev pub record_parts : ℕ → ℕ → List Piece
record_parts i zero = own (blanks (to_section_end i)) ∷ []
record_parts i (suc left) = own (blanks (to_next_part i)) ∷ told (digits 2) ∷ told text27 ∷ record_parts (suc i) left

-- C with k parts
abbrev pub record_c : ℕ → List Piece
record_c k =
    own (numeral 4 (length_of k))  -- C1
    ∷ own (ascii "C")  -- C2
    ∷ told (digits 8)  -- C3
    ∷ told (digits 8)  -- C4
    ∷ told (digits 10)  -- C5
    ∷ told (digits 13)  -- C6
    ∷ told (digits 2)  -- C7a
    ∷ told (digits 3)  -- C7b
    ∷ own (blanks 1)  -- C8
    ∷ own (zeros 11)  -- C9
    ∷ told (digits 8)  -- C10
    ∷ told (digits 10)  -- C11
    ∷ told (digits 11)  -- C12
    ∷ own (blanks 3)  -- C13
    ∷ told text27  -- C14a
    ∷ own (blanks 8)  -- C14b
    ∷ told text27  -- C15
    ∷ told text27  -- C16
    ∷ own (ascii "1")  -- C17a
    ∷ own (blanks 2)  -- C17b
    ∷ own (numeral 2 k)  -- C18
    ∷ record_parts 0 k

-- ---- how many fields lines have behind their letter

-- the fields of the line of A
abbrev pub fields_of_header_line : ℕ
fields_of_header_line = 8

-- the numbers in the line of a payment, which have their full width
abbrev pub numbers_of_payment_line : ℕ
numbers_of_payment_line = 9

-- the fields that the line of every payment has
abbrev pub fields_of_payment_line : ℕ
fields_of_payment_line = 12

-- the fields of a payment with k parts: two more for each part, its mark and its text
abbrev pub fields_with : ℕ → ℕ
fields_with k = fields_of_payment_line + 2 * k

-- how many parts a C line of so many fields tells, its letter among them: 13 + 2 k fields
abbrev pub parts_of : ℕ → ℕ
parts_of fields = min most_parts ((fields - suc fields_of_payment_line) / 2)

-- ---- the record that a line stands for

-- a field made w bytes wide: filled up with blanks, or cut off
abbrev pub pad : ℕ → List ℕ → List ℕ
pad w t = take w (t ++ blanks w)

-- the record of a line: each field as wide as it stands there, and what the record has of its own
abbrev pub lay : List Piece → List (List ℕ) → List ℕ
lay [] ts = []
lay (own bs ∷ ps) ts = bs ++ lay ps ts
lay (told κ ∷ ps) [] = blanks (width κ) ++ lay ps []
lay (told κ ∷ ps) (t ∷ ts) = pad (width κ) t ++ lay ps ts

-- ---- where fields stand

-- a field of the line: where it stands in the record, and its kind
pub record Cell : Type 0 where
  pub place : ℕ
  pub kind : Kind

-- the fields of the pieces from place p of the record on
abbrev pub cells : ℕ → List Piece → List Cell
cells p [] = []
cells p (own bs ∷ ps) = cells (p + length bs) ps
cells p (told κ ∷ ps) = record { place = p; kind = κ } ∷ cells (p + width κ) ps

-- where in the line the field stands that stands at place p of the record, the first of these fields at q; 0, the line's start, for a field
-- that the line does not tell
abbrev pub in_line : List Cell → List (List ℕ) → ℕ → ℕ → ℕ
in_line [] ts q p = 0
in_line (c ∷ cs) [] q p = 0
in_line (c ∷ cs) (t ∷ ts) q p = cond (eqb p c.place) q (in_line cs ts (q + suc (length t)) p)

-- the fields of a record that begins at p, as a line prints them
abbrev pub cut : List ℕ → ℕ → List Cell → List (List ℕ)
cut f p [] = []
cut f p (c ∷ cs) = trim (take (width c.kind) (drop (p + c.place) f)) ∷ cut f p cs

-- ---- the form of a line

-- the widths of a field in a line: texts may be shorter than in the record, A11b may be empty, all else has full width
abbrev pub wide : Kind → ℕ → Bool
wide (fixed bs) n = eqb n (length bs)
wide (digits w) n = eqb n w
wide (maybe w) n = eqb n 0 || eqb n w
wide (text sign w) n = leb n w
wide (choice w words) n = eqb n w

abbrev pub field_formed : Kind → List ℕ → Bool
field_formed κ t = wide κ (length t) && not (ends_in_blank t)

-- fields have the form of a line: their number, and each of them
abbrev pub formed : List Cell → List (List ℕ) → Bool
formed [] [] = true
formed [] (t ∷ ts) = false
formed (c ∷ cs) [] = false
formed (c ∷ cs) (t ∷ ts) = field_formed c.kind t && formed cs ts
