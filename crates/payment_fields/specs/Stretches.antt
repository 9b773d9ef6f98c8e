-- A payment in the stretches in which the code reads it. Put together again they are the payment of the form.
use Rattle.std.specs.Prelude.{ℕ, ◌+◌, ◌≡◌, refl, List}
use Rattle.form.specs.Kind.{digits, blanks}
use Rattle.form.specs.Form.{Form, ret, get, any, ◌>>=◌, ◌>>◌}
use Rattle.document.specs.Signs.{ascii, zeros}
use Rattle.document.specs.Values.{Payment, Part, Totals}
use Rattle.diskette.specs.Fields.{Name, C2, C3, C4, C5, C6, C7a, C7b, C8, C9, C10, C11, C12, C13, C14a, C14b, C15, C16, C17a, C17b, C18, must, text27, rules_c4, rules_c5, rules_c6, rules_c7a, rules_c7b, rules_c10, rules_c11, rules_c12, rules_of_names, rules_c18, parts, payment}
use Rattle.fields.specs.Answers.{Telling}
use Rattle.sums.specs.declared.AccountSum.{AccountSum}
use Rattle.sums.specs.declared.BankCodeSum.{BankCodeSum}
use Rattle.sums.specs.declared.CentSum.{CentSum}

-- ---- C2 to C7b

pub record Receiver : Type 0 where
  pub first_bank : ℕ
  pub bank_code : ℕ
  pub account : ℕ
  pub customer : ℕ
  pub key : ℕ
  pub supplement : ℕ

abbrev pub receiver : List ℕ → ℕ → ℕ → Form Name Receiver
receiver kind accounts bank_codes = do
  must C2 (ascii "C")
  first_bank ← any C3 (digits 8)
  bank_code ← get C4 (digits 8) (rules_c4 bank_codes)
  account ← get C5 (digits 10) (rules_c5 accounts)
  customer ← get C6 (digits 13) rules_c6
  key ← get C7a (digits 2) (rules_c7a kind)
  supplement ← get C7b (digits 3) (rules_c7b key)
  ret (record {
    first_bank = first_bank;
    bank_code = bank_code;
    account = account;
    customer = customer;
    key = key;
    supplement = supplement;
  })

-- of C2 to C7b the code keeps the two sums, of account numbers and of bank codes
abbrev pub receivers_on : ℕ → ℕ → Telling Receiver (AccountSum × BankCodeSum × ℕ)
receivers_on accounts bank_codes r q = (record { 0 = accounts + r.account }, record { 0 = bank_codes + r.bank_code }, q)

-- ---- C8 to C12

pub record Amount : Type 0 where
  pub sender_bank : ℕ
  pub sender_account : ℕ
  pub cents : ℕ

abbrev pub amount : ℕ → Form Name Amount
amount sum = do
  must C8 (blanks 1)
  must C9 (zeros 11)
  sender_bank ← get C10 (digits 8) rules_c10
  sender_account ← get C11 (digits 10) rules_c11
  cents ← get C12 (digits 11) (rules_c12 sum)
  ret (record { sender_bank = sender_bank; sender_account = sender_account; cents = cents })

-- of C8 to C12 the code keeps the sum of cents
abbrev pub amounts_on : ℕ → Telling Amount (CentSum × ℕ)
amounts_on sum a q = (record { 0 = sum + a.cents }, q)

-- ---- C13 to C16: nothing is kept of the texts

pub record Names : Type 0 where
  pub beneficiary : List ℕ
  pub sender : List ℕ
  pub purpose : List ℕ

abbrev pub names : Form Name Names
names = do
  must C13 (blanks 3)
  beneficiary ← get C14a text27 rules_of_names
  must C14b (blanks 8)
  sender ← get C15 text27 rules_of_names
  purpose ← any C16 text27
  ret (record { beneficiary = beneficiary; sender = sender; purpose = purpose })

-- ---- C17a to C18

abbrev pub part_count : ℕ → Form Name ℕ
part_count l = do
  must C17a (ascii "1")
  must C17b (blanks 2)
  get C18 (digits 2) (rules_c18 l)

-- ---- the whole payment

abbrev pub joined : Receiver → Amount → Names → List Part → Payment
joined r a n ps =
    record {
      first_bank = r.first_bank;
      bank_code = r.bank_code;
      account = r.account;
      customer = r.customer;
      key = r.key;
      supplement = r.supplement;
      sender_bank = a.sender_bank;
      sender_account = a.sender_account;
      cents = a.cents;
      beneficiary = n.beneficiary;
      sender = n.sender;
      purpose = n.purpose;
      parts = ps;
    }

abbrev pub stretches : List ℕ → Totals → ℕ → Form Name Payment
stretches kind t l = do
  r ← receiver kind t.accounts t.bank_codes
  a ← amount t.cents
  n ← names
  k ← part_count l
  ps ← parts k 0 15
  ret (joined r a n ps)

pub in_stretches : (kind : List ℕ) (t : Totals) (l : ℕ) → payment kind t l ≡ stretches kind t l
in_stretches kind t l = refl
