-- The listing of a file: one line for A, then one for each payment. What a record has of its own, and E, is not printed.
use Rattle.std.specs.Prelude.{ℕ, List, [], ◌∷◌, ◌++◌}
use Rattle.std.proofs.Math.Option.{Option, none, some}
use Rattle.form.specs.Kind.{numeral}
use Rattle.document.specs.Signs.{ascii}
use Rattle.document.specs.Calendar.{Day, to_ddmmyy, to_ddmmyyyy}
use Rattle.document.specs.Values.{Header, Part, Payment, Document}
use Rattle.listing.specs.Lines.{line, trim}

-- an absent day of execution is empty
abbrev pub print_execution : Option Day → List ℕ
print_execution none = []
print_execution (some d) = numeral 8 (to_ddmmyyyy d)

abbrev pub header_fields : Header → List (List ℕ)
header_fields h =
    h.file_kind  -- A3
    ∷ numeral 8 h.bank_code  -- A4
    ∷ numeral 8 h.sending_bank  -- A5
    ∷ trim h.file_sender  -- A6
    ∷ numeral 6 (to_ddmmyy h.made)  -- A7
    ∷ numeral 10 h.account  -- A9
    ∷ numeral 10 h.reference  -- A10
    ∷ print_execution h.execution  -- A11b
    ∷ []

-- mark and text of each part
abbrev pub part_fields : List Part → List (List ℕ)
part_fields [] = []
part_fields (q ∷ qs) = numeral 2 q.mark ∷ trim q.words ∷ part_fields qs

abbrev pub payment_fields : Payment → List (List ℕ)
payment_fields p =
    numeral 8 p.first_bank  -- C3
    ∷ numeral 8 p.bank_code  -- C4
    ∷ numeral 10 p.account  -- C5
    ∷ numeral 13 p.customer  -- C6
    ∷ numeral 2 p.key  -- C7a
    ∷ numeral 3 p.supplement  -- C7b
    ∷ numeral 8 p.sender_bank  -- C10
    ∷ numeral 10 p.sender_account  -- C11
    ∷ numeral 11 p.cents  -- C12
    ∷ trim p.beneficiary  -- C14a
    ∷ trim p.sender  -- C15
    ∷ trim p.purpose  -- C16
    ∷ part_fields p.parts

abbrev pub header_line : Header → List ℕ
header_line h = line (ascii "A") (header_fields h)

abbrev pub payment_line : Payment → List ℕ
payment_line p = line (ascii "C") (payment_fields p)

abbrev pub payment_lines : List Payment → List ℕ
payment_lines [] = []
payment_lines (p ∷ ps) = payment_line p ++ payment_lines ps

abbrev pub listing : Document → List ℕ
listing d = header_line d.header ++ payment_lines d.payments
