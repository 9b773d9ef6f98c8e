-- When a file's values are legal. No file order, no running sum, no number given back, no reader.
use Rattle.std.specs.Prelude.{ℕ, suc, ◌/◌, ◌%◌, ◌^◌, ◌≤◌, ◌<◌, ◌≡◌, Bool, ◌&&◌, ◌||◌, not, cond, List, [], ◌∷◌, map, length, take, drop, T, eqb}
use Rattle.std.proofs.Math.Option.{Option, none, some}
use Rattle.form.specs.Kind.{every, same, among, one_of}
pub use Rattle.form.specs.Files.{All}
use Rattle.document.specs.Signs.{ascii, sign, not_all_blank}
use Rattle.document.specs.Calendar.{Day, is_day, OnOrSoonAfter, century}
use Rattle.document.specs.Values.{Header, Part, Payment, Document, totals}

-- ---- limits

abbrev pub most_payments : ℕ
most_payments = 9_999_999

abbrev pub most_cents : ℕ
most_cents = 9_999_999_999_999

-- the sums of account numbers and of bank codes have 17 digits
abbrev pub sum_limit : ℕ
sum_limit = 10 ^ 17

-- ---- named conditions of fields

abbrev pub file_kinds : List (List ℕ)
file_kinds = ascii "GK" ∷ ascii "LK" ∷ ascii "GB" ∷ ascii "LB" ∷ []

abbrev pub begins_with_g : List ℕ → Bool
begins_with_g kind = same (take 1 kind) (ascii "G")

abbrev pub ends_in_k : List ℕ → Bool
ends_in_k kind = same (drop 1 kind) (ascii "K")

-- A5: all zero where A3 ends in K
abbrev pub sending_bank_ok : List ℕ → ℕ → Bool
sending_bank_ok kind v = not (ends_in_k kind) || eqb v 0

-- C4, C10: the first of eight digits neither 0 nor 9
abbrev pub bank_code_ok : ℕ → Bool
bank_code_ok v = not (eqb (v / 10 ^ 7) 0) && not (eqb (v / 10 ^ 7) 9)

-- C6: the first and the last of thirteen digits 0
abbrev pub customer_ok : ℕ → Bool
customer_ok v = eqb (v / 10 ^ 12) 0 && eqb (v % 10) 0

abbrev pub not_zero : ℕ → Bool
not_zero v = not (eqb v 0)

-- C7a: A3 beginning with G: 51, 53, 54 or 56; with L: 04 or 05
abbrev pub keys : Bool → List ℕ
keys credit = cond credit (51 ∷ 53 ∷ 54 ∷ 56 ∷ []) (4 ∷ 5 ∷ [])

abbrev pub key_ok : List ℕ → ℕ → Bool
key_ok kind v = one_of (keys (begins_with_g kind)) v

-- C7b, held against C7a: with 04, 51 and 53 it is 000 or 888; with 05 it is 000, 888, 005, 006 or 015; with 56 it is 000; with 54 all three
-- digits are free. Another key has none.
abbrev pub supplement_ok : ℕ → ℕ → Bool
supplement_ok key v =
    (one_of (4 ∷ 51 ∷ 53 ∷ []) key && one_of (0 ∷ 888 ∷ []) v)
    || (eqb key 5 && one_of (0 ∷ 888 ∷ 5 ∷ 6 ∷ 15 ∷ []) v)
    || (eqb key 56 && eqb v 0)
    || eqb key 54

-- a text: 27 permitted signs
pub record Text (t : List ℕ) : Type 0 where
  pub long : length t ≡ 27
  pub signs : T (every sign t)

-- ---- marks: 01 beneficiary or payer, 02 purpose, 03 sender or payee

abbrev pub how_many : ℕ → List ℕ → ℕ
how_many m [] = 0
how_many m (x ∷ xs) = let n = how_many m xs in cond (eqb x m) (suc n) n

abbrev pub NeverDescending : List ℕ → Type 0
NeverDescending [] = Unit {0}
NeverDescending (m ∷ ms) = All (λ x. m ≤ x) ms × NeverDescending ms

pub record LegalMarks (ms : List ℕ) : Type 0 where
  pub each : All (λ m. (1 ≤ m) × (m ≤ 3)) ms
  pub order : NeverDescending ms
  pub once_01 : how_many 1 ms ≤ 1
  pub times_02 : how_many 2 ms ≤ 13
  pub once_03 : how_many 3 ms ≤ 1

abbrev pub marks : Payment → List ℕ
marks p = map (λ (q : Part). q.mark) p.parts

-- ---- legal

-- A11b: no date, or a calendar date on A7's day or soon after
abbrev pub LegalExecution : Day → Option Day → Type 0
LegalExecution made none = Unit {0}
LegalExecution made (some d) = T (is_day d) × OnOrSoonAfter made d

pub record LegalHeader (h : Header) : Type 0 where
  pub A3 : T (among file_kinds h.file_kind)
  pub A4 : h.bank_code < 10 ^ 8
  pub A5 : h.sending_bank < 10 ^ 8
  pub a5_zero : T (sending_bank_ok h.file_kind h.sending_bank)
  pub A6 : Text h.file_sender
  pub A7 : T (is_day h.made)
  pub a7_year : century (h.made.year % 100) ≡ h.made.year
  pub A9 : h.account < 10 ^ 10
  pub A10 : h.reference < 10 ^ 10
  pub A11b : LegalExecution h.made h.execution

pub record LegalPayment (kind : List ℕ) (p : Payment) : Type 0 where
  pub C3 : p.first_bank < 10 ^ 8
  pub C4 : p.bank_code < 10 ^ 8
  pub c4_first : T (bank_code_ok p.bank_code)
  pub C5 : p.account < 10 ^ 10
  pub c5_some : T (not_zero p.account)
  pub C6 : p.customer < 10 ^ 13
  pub c6_ends : T (customer_ok p.customer)
  pub C7a : T (key_ok kind p.key)
  pub C7b : p.supplement < 10 ^ 3
  pub c7b_key : T (supplement_ok p.key p.supplement)
  pub C10 : p.sender_bank < 10 ^ 8
  pub c10_first : T (bank_code_ok p.sender_bank)
  pub C11 : p.sender_account < 10 ^ 10
  pub c11_some : T (not_zero p.sender_account)
  pub C12 : p.cents < 10 ^ 11
  pub c12_some : T (not_zero p.cents)
  pub C14a : Text p.beneficiary
  pub c14a_some : T (not_all_blank p.beneficiary)
  pub C15 : Text p.sender
  pub c15_some : T (not_all_blank p.sender)
  pub C16 : Text p.purpose
  pub marks : LegalMarks (marks p)
  pub words : All (λ (q : Part). Text q.words) p.parts

-- one header, at least one payment, and totals within their limits
pub record Legal (d : Document) : Type 0 where
  pub header : LegalHeader d.header
  pub payments : All (LegalPayment d.header.file_kind) d.payments
  pub some : 1 ≤ (totals d.payments).count
  pub count : (totals d.payments).count ≤ most_payments
  pub accounts : (totals d.payments).accounts < sum_limit
  pub bank_codes : (totals d.payments).bank_codes < sum_limit
  pub cents : (totals d.payments).cents ≤ most_cents
