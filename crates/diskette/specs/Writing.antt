-- How a file's values are written out, field by field, and which files are acceptable. Nothing here reads.
use Rattle.std.specs.Prelude.{ℕ, suc, ◌+◌, ◌-◌, ◌*◌, ◌/◌, ◌%◌, ◌≡◌, Bool, ◌||◌, cond, List, [], ◌∷◌, ◌++◌, length, leb, eqb}
use Rattle.std.proofs.Math.Option.{Option, none, some}
use Rattle.form.specs.Kind.{numeral, blanks}
use Rattle.document.specs.Signs.{ascii, zeros}
use Rattle.document.specs.Calendar.{Day, to_ddmmyy, to_ddmmyyyy}
use Rattle.document.specs.Values.{Header, Part, Payment, Document, Totals, totals}
use Rattle.document.specs.Rules.{Legal}

-- fields one after another
abbrev pub in_turn : List (List ℕ) → List ℕ
in_turn [] = []
in_turn (field ∷ fields) = field ++ in_turn fields

-- ---- A

abbrev pub write_execution : Option Day → List ℕ
write_execution none = blanks 8
write_execution (some d) = numeral 8 (to_ddmmyyyy d)

abbrev pub fields_of_a : Header → List (List ℕ)
fields_of_a h =
    ascii "0128"  -- A1
    ∷ ascii "A"  -- A2
    ∷ h.file_kind  -- A3
    ∷ numeral 8 h.bank_code  -- A4
    ∷ numeral 8 h.sending_bank  -- A5
    ∷ h.file_sender  -- A6
    ∷ numeral 6 (to_ddmmyy h.made)  -- A7
    ∷ blanks 4  -- A8
    ∷ numeral 10 h.account  -- A9
    ∷ numeral 10 h.reference  -- A10
    ∷ blanks 15  -- A11a
    ∷ write_execution h.execution  -- A11b
    ∷ blanks 24  -- A11c
    ∷ ascii "1"  -- A12
    ∷ []

abbrev pub write_header : Header → List ℕ
write_header h = in_turn (fields_of_a h)

-- ---- C

-- the section in which part i stands: the second takes 2 parts, the third to fifth 4 each, the sixth 1 (part 0: C18, with which the second
-- section goes on)
abbrev pub section : ℕ → ℕ
section i = cond (leb i 2) 2 (3 + (i - 3) / 4)

-- part i is the last that its section takes
abbrev pub fills_section : ℕ → Bool
fills_section i = eqb i 2 || (eqb i 6 || (eqb i 10 || eqb i 14))

-- the blanks from the end of part i to the end of its section
unfoldable pub to_section_end : ℕ → ℕ
to_section_end i = cond (leb i 2) (69 - 29 * i) (128 - 29 * ((i - 3) % 4 + 1))

-- the blanks between part i and a next one
unfoldable pub to_next_part : ℕ → ℕ
to_next_part i = cond (fills_section i) (to_section_end i) 0

-- the length that C1 tells: the fixed fields and k parts, without the blanks that close a section
abbrev pub length_of : ℕ → ℕ
length_of k = 187 + 29 * k

-- the parts behind part i, and the blanks that close each section
abbrev pub write_parts : ℕ → List Part → List ℕ
write_parts i [] = blanks (to_section_end i)
write_parts i (q ∷ qs) = in_turn (blanks (to_next_part i) ∷ numeral 2 q.mark ∷ q.words ∷ write_parts (suc i) qs ∷ [])

-- the fields of C behind its length
abbrev pub fields_of_c : Payment → List (List ℕ)
fields_of_c p =
    ascii "C"  -- C2
    ∷ numeral 8 p.first_bank  -- C3
    ∷ numeral 8 p.bank_code  -- C4
    ∷ numeral 10 p.account  -- C5
    ∷ numeral 13 p.customer  -- C6
    ∷ numeral 2 p.key  -- C7a
    ∷ numeral 3 p.supplement  -- C7b
    ∷ blanks 1  -- C8
    ∷ zeros 11  -- C9
    ∷ numeral 8 p.sender_bank  -- C10
    ∷ numeral 10 p.sender_account  -- C11
    ∷ numeral 11 p.cents  -- C12
    ∷ blanks 3  -- C13
    ∷ p.beneficiary  -- C14a
    ∷ blanks 8  -- C14b
    ∷ p.sender  -- C15
    ∷ p.purpose  -- C16
    ∷ ascii "1"  -- C17a
    ∷ blanks 2  -- C17b
    ∷ numeral 2 (length p.parts)  -- C18
    ∷ write_parts 0 p.parts
    ∷ []

-- all of C but its length
abbrev pub write_body : Payment → List ℕ
write_body p = in_turn (fields_of_c p)

-- a payment: C1, and its other fields
abbrev pub write_payment : Payment → List ℕ
write_payment p = numeral 4 (length_of (length p.parts)) ++ write_body p

abbrev pub write_payments : List Payment → List ℕ
write_payments [] = []
write_payments (p ∷ ps) = write_payment p ++ write_payments ps

-- ---- E

-- the fields of E behind its length
abbrev pub fields_of_e : Totals → List (List ℕ)
fields_of_e t =
    ascii "E"  -- E2
    ∷ blanks 5  -- E3
    ∷ numeral 7 t.count  -- E4
    ∷ zeros 13  -- E5
    ∷ numeral 17 t.accounts  -- E6
    ∷ numeral 17 t.bank_codes  -- E7
    ∷ numeral 13 t.cents  -- E8
    ∷ blanks 51  -- E9
    ∷ []

-- all of E but its length
abbrev pub write_figures : Totals → List ℕ
write_figures t = in_turn (fields_of_e t)

-- E: its length, and its other fields
abbrev pub write_end : Totals → List ℕ
write_end t = numeral 4 128 ++ write_figures t

-- ---- the file

abbrev pub write : Document → List ℕ
write d = in_turn (write_header d.header ∷ write_payments d.payments ∷ write_end (totals d.payments) ∷ [])

-- a file is acceptable when it is a legal document written out
abbrev pub Acceptable : List ℕ → Type 0
Acceptable f = (d : Document) × Legal d × (write d ≡ f)

-- bytes with which some acceptable file begins
abbrev pub Begin : List ℕ → Type 0
Begin bs = (rest : List ℕ) × Acceptable (bs ++ rest)
