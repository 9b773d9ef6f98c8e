-- Lines as they are printed out of a file: field by field, from where it stands in its record. This serves the contracts of private functions
-- only: what `list` promises cites `Endings` of the listing, and nothing of these.
use Rattle.std.specs.Prelude.{ℕ, ◌+◌, ◌≤◌, ◌<◌, ◌≡◌, Bool, false, List, ◌∷◌, ◌++◌, length, take, drop, T, leb}
use Rattle.form.specs.Kind.{every, width}
use Rattle.diskette.specs.Answer.{answer, outcome}
use Rattle.listing.specs.Lines.{tab, behind_tabs, line, trim}
use Rattle.listing.specs.Records.{numbers_of_payment_line, fields_with, Cell, cut, formed}
use Rattle.output.specs.Writing.{over}
use Rattle.layout.specs.declared.Cell.{Cell as CodeCell}
use Rattle.layout.specs.Cells.{letter_of, cells_of, cell_at}
use Rattle.lister.specs.declared.Pen.{Pen}

-- the line, of n fields behind its letter, of the record that begins at p
abbrev pub line_at : Bool → ℕ → List ℕ → ℕ → List ℕ
line_at head n f p = line (letter_of head) (cut f p (take n (cells_of head)))

-- a line can have n fields behind its letter, and of the record at p these n lie in the file
abbrev pub Lies : Bool → ℕ → List ℕ → ℕ → Type 0
Lies head n f p = (n ≤ length (cells_of head)) × T (every (λ (c : Cell). leb (p + (c.place + width c.kind)) (length f)) (take n (cells_of head)))

-- of the record at p the first n fields have the width that a line gives them: a number stands there in full
abbrev pub Formed : Bool → ℕ → List ℕ → ℕ → Type 0
Formed head n f p = let cs = take n (cells_of head) in T (formed cs (cut f p cs))

-- what is printed of the field in this cell of the record
abbrev pub printed_cell : CodeCell → List ℕ → ℕ → List ℕ
printed_cell c f p = trim (take c.width (drop (p + c.place) f))

-- field i lies in the file, and what is printed of it
abbrev pub FieldLies : Bool → ℕ → List ℕ → ℕ → Type 0
FieldLies head i f p = let c = cell_at head i in p + (c.place + c.width) ≤ length f

abbrev pub printed_field : Bool → ℕ → List ℕ → ℕ → List ℕ
printed_field head i f p = printed_cell (cell_at head i) f p

-- the numbers that the line of a payment begins with lie in the file, each in full, and what is printed of them
abbrev pub NumbersLie : List ℕ → ℕ → Type 0
NumbersLie f p = (i : ℕ) → i < numbers_of_payment_line → FieldLies false i f p × (length (printed_field false i f p) ≡ (cell_at false i).width)

abbrev pub numbers_at : List ℕ → ℕ → List ℕ
numbers_at f p = behind_tabs (cut f p (take numbers_of_payment_line (cells_of false)))

-- mark and text of a part lie in the file, the mark in full, and what is printed of them
abbrev pub PartLies : ℕ → List ℕ → ℕ → Type 0
PartLies part f p =
    let mark = fields_with part in
    FieldLies false mark f p × FieldLies false (mark + 1) f p × (length (printed_field false mark f p) ≡ (cell_at false mark).width)

abbrev pub part_at : ℕ → List ℕ → ℕ → List ℕ
part_at part f p = let mark = fields_with part in (tab ∷ printed_field false mark f p) ++ (tab ∷ printed_field false (mark + 1) f p)

-- the file is accepted, with n payments
abbrev pub AcceptedFile : ℕ → List ℕ → Type 0
AcceptedFile n f = ((outcome (answer f)).verdict.number ≡ 0) × (n ≡ (outcome (answer f)).totals.count)

-- the output has room for these bytes from the pen on
abbrev pub HasRoom : List ℕ → Pen → Type 0
HasRoom bs pen = pen.at + length bs ≤ length pen.out.now

-- these bytes are printed into the same output, and the pen stands behind them
pub record Wrote (bs : List ℕ) (old new : Pen) : Type 0 where
  pub same_reference : new.out.ghost_name ≡ old.out.ghost_name
  pub place : new.at ≡ old.at + length bs
  pub out : new.out.now ≡ over old.at bs old.out.now
