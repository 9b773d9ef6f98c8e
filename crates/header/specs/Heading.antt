-- The record A in the two stretches in which the code reads it, which together are the header of the form, and what the code answers of each.
use Rattle.std.specs.Prelude.{ℕ, ◌≡◌, refl, List}
use Rattle.std.proofs.Math.Option.{Option}
use Rattle.form.specs.Kind.{digits, maybe, choice, blanks}
use Rattle.form.specs.Form.{Form, ret, get, any, ◌>>=◌, ◌>>◌}
use Rattle.document.specs.Signs.{ascii}
use Rattle.document.specs.Calendar.{of_ddmmyy}
use Rattle.document.specs.Calendar as calendar
use Rattle.document.specs.Values as values
use Rattle.document.specs.Rules.{file_kinds}
use Rattle.diskette.specs.Fields.{Name, A1, A2, A3, A4, A5, A6, A7, A8, A9, A10, A11a, A11b, A11c, A12, must, text27, rules_a5, rules_a7, execution_of, rules_a11b, header}
use Rattle.fields.specs.Answers.{Telling, kind_of}
use Rattle.calendar.specs.Days.{day_from}
use Rattle.dates.specs.Dates.{execution_in}
use Rattle.header.specs.declared.Header.{Header}
use Rattle.header.specs.declared.Opening as opened
use Rattle.header.specs.declared.Order as ordered

-- ---- A1 to A7

pub record Opening : Type 0 where
  pub file_kind : List ℕ
  pub bank_code : ℕ
  pub sending_bank : ℕ
  pub file_sender : List ℕ
  pub made : calendar.Day

abbrev pub opening : Form Name Opening
opening = do
  must A1 (ascii "0128")
  must A2 (ascii "A")
  kind ← any A3 (choice 2 file_kinds)
  bank_code ← any A4 (digits 8)
  sending_bank ← get A5 (digits 8) (rules_a5 kind)
  file_sender ← any A6 text27
  made ← get A7 (digits 6) rules_a7
  ret (record { file_kind = kind; bank_code = bank_code; sending_bank = sending_bank; file_sender = file_sender; made = of_ddmmyy made })

-- what the code keeps of it
abbrev pub opening_of : Opening → opened.Opening
opening_of o = record { kind = kind_of o.file_kind; bank_code = o.bank_code; sending_bank = o.sending_bank; made = day_from o.made }

abbrev pub openings : Telling Opening (opened.Opening × ℕ)
openings o q = (opening_of o, q)

-- ---- A8 to A12

pub record Order : Type 0 where
  pub account : ℕ
  pub reference : ℕ
  pub execution : Option calendar.Day

unfoldable pub order : calendar.Day → Form Name Order
order made = do
  must A8 (blanks 4)
  account ← any A9 (digits 10)
  reference ← any A10 (digits 10)
  must A11a (blanks 15)
  execution ← get A11b (maybe 8) (rules_a11b made)
  must A11c (blanks 24)
  must A12 (ascii "1")
  ret (record { account = account; reference = reference; execution = execution_of execution })

abbrev pub order_of : Order → ordered.Order
order_of x = record { account = x.account; reference = x.reference; execution = execution_in x.execution }

abbrev pub orders : Telling Order (ordered.Order × ℕ)
orders x q = (order_of x, q)

-- ---- the whole header

abbrev pub joined : Opening → Order → values.Header
joined o x =
    record {
      file_kind = o.file_kind;
      bank_code = o.bank_code;
      sending_bank = o.sending_bank;
      file_sender = o.file_sender;
      made = o.made;
      account = x.account;
      reference = x.reference;
      execution = x.execution;
    }

abbrev pub behind_opening : Opening → Form Name values.Header
behind_opening o = do
  x ← order o.made
  ret (joined o x)

pub in_stretches : header ≡ opening >>= behind_opening
unfolding order
in_stretches = refl

-- what the code keeps of a header
abbrev pub header_of : values.Header → Header
header_of h =
    record {
      kind = kind_of h.file_kind;
      bank_code = h.bank_code;
      sending_bank = h.sending_bank;
      made = day_from h.made;
      account = h.account;
      reference = h.reference;
      execution = execution_in h.execution;
    }

abbrev pub headers : Telling values.Header (Header × ℕ)
headers h q = (header_of h, q)
