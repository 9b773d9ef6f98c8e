-- The diskette form: its fields in the order of the file, each with its name and its rules, and with the number that is given where a rule
-- does not hold.
use Rattle.std.specs.Prelude.{ℕ, zero, suc, ◌+◌, ◌-◌, ◌%◌, Bool, ◌&&◌, ◌||◌, List, [], ◌∷◌, leb, ltb, eqb}
use Rattle.std.proofs.Math.Option.{Option, none, some}
use Rattle.form.specs.Kind.{Kind, fixed, digits, maybe, text, choice, Value, blanks}
use Rattle.form.specs.Form.{Rule, rule, Form, ret, get, any, fork, ◌>>=◌, ◌>>◌}
use Rattle.document.specs.Signs.{ascii, zeros, sign, not_all_blank}
use Rattle.document.specs.Calendar.{Day, is_day, not_too_early, not_too_late, DateCase, in_order, no_such_day, too_early, too_late, of_ddmmyy, of_ddmmyyyy}
use Rattle.document.specs.Values.{Header, Part, Payment, Document, Totals, no_totals, adding}
use Rattle.document.specs.Rules.{most_payments, most_cents, sum_limit, file_kinds, sending_bank_ok, bank_code_ok, customer_ok, not_zero, key_ok, supplement_ok}
use Rattle.document.specs.Marks.{room_after, mark_ok}
use Rattle.diskette.specs.Writing.{length_of, section, to_section_end, to_next_part}

-- the names of the fields
pub data Name : Type 0 where
  A1 A2 A3 A4 A5 A6 A7 A8 A9 A10 A11a A11b A11c A12 : Name
  c1_or_e1 : Name  -- one field until its value tells which
  C2 C3 C4 C5 C6 C7a C7b C8 C9 C10 C11 C12 C13 C14a C14b C15 C16 C17a C17b C18 : Name
  mark words : ℕ → Name  -- of part i, from 1
  closing : ℕ → Name  -- the blanks that close section s, from 2
  E2 E3 E4 E5 E6 E7 E8 E9 : Name

-- ---- kinds of field that recur

-- fixed bytes, blanks or zeros
abbrev pub must : Name → List ℕ → Form Name (Value (fixed []))
must ν bs = any ν (fixed bs)

abbrev pub text27 : Kind
text27 = text sign 27

-- ---- A

abbrev pub rules_a5 : List ℕ → ℕ → List Rule
rules_a5 kind v = rule 11 (sending_bank_ok kind v) ∷ []

-- the number of each case of a date
abbrev pub date_number : DateCase → ℕ
date_number in_order = 0
date_number no_such_day = 10
date_number too_early = 22
date_number too_late = 23

abbrev pub rules_a7 : ℕ → List Rule
rules_a7 n = rule (date_number no_such_day) (is_day (of_ddmmyy n)) ∷ []

-- A11b as read: no date, or a day
abbrev pub execution_of : Option ℕ → Option Day
execution_of none = none
execution_of (some n) = some (of_ddmmyyyy n)

abbrev pub execution_rules : Day → Option Day → List Rule
execution_rules made none = []
execution_rules made (some d) =
    rule (date_number no_such_day) (is_day d)
    ∷ rule (date_number too_early) (not_too_early made d)
    ∷ rule (date_number too_late) (not_too_late made d)
    ∷ []

abbrev pub rules_a11b : Day → Option ℕ → List Rule
rules_a11b made n = execution_rules made (execution_of n)

abbrev pub header : Form Name Header
header = do
  must A1 (ascii "0128")
  must A2 (ascii "A")
  kind ← any A3 (choice 2 file_kinds)
  bank_code ← any A4 (digits 8)
  sending_bank ← get A5 (digits 8) (rules_a5 kind)
  file_sender ← any A6 text27
  made ← get A7 (digits 6) rules_a7
  must A8 (blanks 4)
  account ← any A9 (digits 10)
  reference ← any A10 (digits 10)
  must A11a (blanks 15)
  execution ← get A11b (maybe 8) (rules_a11b (of_ddmmyy made))
  must A11c (blanks 24)
  must A12 (ascii "1")
  ret (record {
    file_kind = kind;
    bank_code = bank_code;
    sending_bank = sending_bank;
    file_sender = file_sender;
    made = of_ddmmyy made;
    account = account;
    reference = reference;
    execution = execution_of execution;
  })

-- ---- C

-- sum: that of C4 in the payments before
abbrev pub rules_c4 : ℕ → ℕ → List Rule
rules_c4 sum v = rule 11 (bank_code_ok v) ∷ rule 8 (ltb (sum + v) sum_limit) ∷ []

-- sum: that of C5 in the payments before
abbrev pub rules_c5 : ℕ → ℕ → List Rule
rules_c5 sum v = rule 11 (not_zero v) ∷ rule 7 (ltb (sum + v) sum_limit) ∷ []

abbrev pub rules_c6 : ℕ → List Rule
rules_c6 v = rule 11 (customer_ok v) ∷ []

abbrev pub rules_c7a : List ℕ → ℕ → List Rule
rules_c7a kind v = rule 12 (key_ok kind v) ∷ []

-- key: C7a
abbrev pub rules_c7b : ℕ → ℕ → List Rule
rules_c7b key v = rule 21 (supplement_ok key v) ∷ []

abbrev pub rules_c10 : ℕ → List Rule
rules_c10 v = rule 11 (bank_code_ok v) ∷ []

abbrev pub rules_c11 : ℕ → List Rule
rules_c11 v = rule 11 (not_zero v) ∷ []

-- sum: that of C12 in the payments before
abbrev pub rules_c12 : ℕ → ℕ → List Rule
rules_c12 sum v = rule 11 (not_zero v) ∷ rule 9 (leb (sum + v) most_cents) ∷ []

-- the rules of C14a and of C15
abbrev pub rules_of_names : List ℕ → List Rule
rules_of_names s = rule 11 (not_all_blank s) ∷ []

-- C18 agrees with the length l, which C1 tells
abbrev pub rules_c18 : ℕ → ℕ → List Rule
rules_c18 l k = rule 11 (eqb (length_of k) l) ∷ []

-- a mark may stand here, where room parts can follow, and the parts still to come can be filled
abbrev pub mark_rules : ℕ → ℕ → ℕ → List Rule
mark_rules room left m = rule 13 (mark_ok room m) ∷ rule 13 (leb left (room_after m room)) ∷ []

-- the blanks that close a section; no field where there are none
abbrev pub closing_blanks : ℕ → ℕ → Form Name (Value (fixed []))
closing_blanks s zero = ret tt
closing_blanks s (suc n) = must (closing s) (blanks (suc n))

-- the parts behind part i, so many as are left
unfoldable pub parts : ℕ → ℕ → ℕ → Form Name (List Part)
parts zero i room = do
  closing_blanks (section i) (to_section_end i)
  ret []
parts (suc left) i room = do
  closing_blanks (section i) (to_next_part i)
  m ← get (mark (suc i)) (digits 2) (mark_rules room left)
  t ← any (words (suc i)) text27
  ps ← parts left (suc i) (room_after m room)
  ret (record { mark = m; words = t } ∷ ps)

-- a payment whose C1 tells the length l, in a file of this kind, after payments that come to t
abbrev pub payment : List ℕ → Totals → ℕ → Form Name Payment
payment kind t l = do
  must C2 (ascii "C")
  first_bank ← any C3 (digits 8)
  bank_code ← get C4 (digits 8) (rules_c4 t.bank_codes)
  account ← get C5 (digits 10) (rules_c5 t.accounts)
  customer ← get C6 (digits 13) rules_c6
  key ← get C7a (digits 2) (rules_c7a kind)
  supplement ← get C7b (digits 3) (rules_c7b key)
  must C8 (blanks 1)
  must C9 (zeros 11)
  sender_bank ← get C10 (digits 8) rules_c10
  sender_account ← get C11 (digits 10) rules_c11
  cents ← get C12 (digits 11) (rules_c12 t.cents)
  must C13 (blanks 3)
  beneficiary ← get C14a text27 rules_of_names
  must C14b (blanks 8)
  sender ← get C15 text27 rules_of_names
  purpose ← any C16 text27
  must C17a (ascii "1")
  must C17b (blanks 2)
  k ← get C18 (digits 2) (rules_c18 l)
  ps ← parts k 0 15
  ret (record {
    first_bank = first_bank;
    bank_code = bank_code;
    account = account;
    customer = customer;
    key = key;
    supplement = supplement;
    sender_bank = sender_bank;
    sender_account = sender_account;
    cents = cents;
    beneficiary = beneficiary;
    sender = sender;
    purpose = purpose;
    parts = ps;
  })

-- ---- E

abbrev pub figure : ℕ → ℕ → List Rule
figure counted v = rule 14 (eqb v counted) ∷ []

-- E behind its length, after payments that come to t: no payment follows
abbrev pub end : Totals → Form Name (List Payment)
end t = do
  must E2 (ascii "E")
  must E3 (blanks 5)
  get E4 (digits 7) (figure t.count)
  must E5 (zeros 13)
  get E6 (digits 17) (figure t.accounts)
  get E7 (digits 17) (figure t.bank_codes)
  get E8 (digits 13) (figure t.cents)
  must E9 (blanks 51)
  ret []

-- ---- the file

-- a length of C: 187 + 29 k, k from 0 to 15
abbrev pub is_length : ℕ → Bool
is_length l = (leb 187 l && leb l 622) && eqb ((l - 187) % 29) 0

-- the first field after A or a C, after payments that come to t: E's length after at least one C, or a length of C where a C may begin
abbrev pub first_field : Totals → ℕ → List Rule
first_field t l =
    rule 5 ((eqb l 128 && leb 1 t.count) || is_length l)
    ∷ rule 6 (eqb l 128 || ltb t.count most_payments)
    ∷ rule 9 (eqb l 128 || ltb t.cents most_cents)
    ∷ []

-- the payments and the end, after payments that come to t; so many more can come
unfoldable pub payments : ℕ → List ℕ → Totals → Form Name (List Payment)
payments zero kind t = do
  get c1_or_e1 (digits 4) (first_field t)
  end t
payments (suc left) kind t = do
  l ← get c1_or_e1 (digits 4) (first_field t)
  fork (eqb l 128) (end t) (λ u. do
    p ← payment kind t l
    ps ← payments left kind (adding t p)
    ret (p ∷ ps))

-- all that follows A
abbrev pub behind_header : Header → Form Name Document
behind_header h = do
  ps ← payments most_payments h.file_kind no_totals
  ret (record { header = h; payments = ps })

unfoldable pub document : Form Name Document
document = do
  h ← header
  behind_header h
