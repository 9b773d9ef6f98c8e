-- The texts of a payment: which it has, where they stand in it, and which payment begins at a byte of the file.
use Rattle.std.specs.Prelude.{ℕ, zero, suc, ◌+◌, ◌-◌, ◌*◌, ◌/◌, ◌%◌, cond, List, [], ◌∷◌, length, leb, eqb}
use Rattle.std.proofs.Math.Option.{Option, none, some}
use Rattle.std.proofs.Math.ListN.{get_elem?}
use Rattle.document.specs.Values.{Part, Payment}
use Rattle.diskette.specs.Writing.{write_payment}
use Rattle.layout.specs.Places as place
use Rattle.layout.specs.Widths as width
use Rattle.layout.specs.Steps.{section_bytes, first_payment}
use Rattle.finder.specs.declared.Wanted.{Wanted}
use Rattle.finder.specs.declared.Wanted.TheVariants.{C14a, C15, C16, Part as PartText}

-- ---- which texts

abbrev pub words_of : Option Part → Option (List ℕ)
words_of none = none
words_of (some q) = some q.words

-- part i, from 1
abbrev pub part_of : ℕ → List Part → Option Part
part_of zero qs = none
part_of (suc i) qs = get_elem? qs i

-- a text of the payment; there is none of a part 0, or beyond the last
abbrev pub text_of : Wanted → Payment → Option (List ℕ)
text_of C14a x = some x.beneficiary
text_of C15 x = some x.sender
text_of C16 x = some x.purpose
text_of (PartText i) x = words_of (part_of i x.parts)

-- ---- where the texts stand

abbrev pub text_width : ℕ
text_width = width.text

-- the mark of part i, from 1: the second section takes two parts, behind C18; the third to fifth take four each, the sixth one
abbrev pub mark_place : ℕ → ℕ
mark_place i = cond (leb i 2) (place.parts + width.part * (i - 1)) (2 * section_bytes + section_bytes * ((i - 3) / 4) + width.part * ((i - 3) % 4))

-- where a text stands, counted from the first byte of the payment; that of a part stands behind its mark
abbrev pub place_of : Wanted → ℕ
place_of C14a = place.C14a
place_of C15 = place.C15
place_of C16 = place.C16
place_of (PartText i) = mark_place i + width.mark

-- ---- which payment

-- the payment that begins at start, of those that are written out one after another, the first at p
abbrev pub begun_from : ℕ → ℕ → List Payment → Option Payment
begun_from start p [] = none
begun_from start p (x ∷ xs) = let others = begun_from start (p + length (write_payment x)) xs in cond (eqb p start) (some x) others

-- the payment that begins at start in a file, where the first stands behind A
unfoldable pub begun_at : ℕ → List Payment → Option Payment
begun_at start ps = begun_from start first_payment ps
