-- The fields of a line as the code has them, one by one: where a field stands in its record, how wide, and of what kind.
use Rattle.std.specs.Prelude.{ℕ, Bool, true, false, List}
use Rattle.std.proofs.Math.Option.{Option, none, some}
use Rattle.std.proofs.Math.ListN.{get_elem?}
use Rattle.form.specs.Kind.{Kind, fixed, digits, maybe, text, choice, width}
use Rattle.document.specs.Signs.{ascii}
use Rattle.document.specs.Marks.{most_parts}
use Rattle.listing.specs.Records.{Piece, record_a, record_c, Cell, cells}
use Rattle.layout.specs.declared.Cell.{Cell as CodeCell}

-- the letter of A, or of C
abbrev pub letter_of : Bool → List ℕ
letter_of true = ascii "A"
letter_of false = ascii "C"

-- the record A, or C with k parts
abbrev pub record_of : Bool → ℕ → List Piece
record_of true k = record_a
record_of false k = record_c k

abbrev pub is_text : Kind → Bool
is_text (fixed bs) = false
is_text (digits w) = false
is_text (maybe w) = false
is_text (text sign w) = true
is_text (choice w words) = false

abbrev pub is_optional : Kind → Bool
is_optional (fixed bs) = false
is_optional (digits w) = false
is_optional (maybe w) = true
is_optional (text sign w) = false
is_optional (choice w words) = false

-- a field of a line as the code has it; where there is none, its width is 0
abbrev pub cell_of : Option Cell → CodeCell
cell_of none = record { place = 0; width = 0; text = false; optional = false }
cell_of (some c) = record { place = c.place; width = width c.kind; text = is_text c.kind; optional = is_optional c.kind }

-- the fields of the line of A, or of the longest C: a shorter one has the first of them
abbrev pub cells_of : Bool → List Cell
cells_of head = cells 0 (record_of head most_parts)

-- field i of a line, counted from 0 behind the letter
abbrev pub cell_at : Bool → ℕ → CodeCell
cell_at head i = cell_of (get_elem? (cells_of head) i)
