-- What a file says: one header, its payments, and what they come to. Numbers are numbers, days are days, texts are rows of bytes.
use Rattle.std.specs.Prelude.{ℕ, ◌+◌, List, [], ◌∷◌, length}
use Rattle.std.proofs.Math.Option.{Option}
use Rattle.document.specs.Calendar.{Day}

pub record Header : Type 0 where
  pub file_kind : List ℕ  -- A3: GK, LK, GB or LB
  pub bank_code : ℕ  -- A4: the receiving bank
  pub sending_bank : ℕ  -- A5
  pub file_sender : List ℕ  -- A6
  pub made : Day  -- A7: the day of creation
  pub account : ℕ  -- A9
  pub reference : ℕ  -- A10
  pub execution : Option Day  -- A11b: no date, or the day of execution

-- an extension part
pub record Part : Type 0 where
  pub mark : ℕ
  pub words : List ℕ

pub record Payment : Type 0 where
  pub first_bank : ℕ  -- C3
  pub bank_code : ℕ  -- C4
  pub account : ℕ  -- C5
  pub customer : ℕ  -- C6: the internal customer number
  pub key : ℕ  -- C7a
  pub supplement : ℕ  -- C7b
  pub sender_bank : ℕ  -- C10
  pub sender_account : ℕ  -- C11
  pub cents : ℕ  -- C12
  pub beneficiary : List ℕ  -- C14a: the beneficiary or payer
  pub sender : List ℕ  -- C15: the sender or payee
  pub purpose : List ℕ  -- C16
  pub parts : List Part

pub record Document : Type 0 where
  pub header : Header
  pub payments : List Payment

-- ---- what payments come to: their number, and three sums that never meet

pub record Totals : Type 0 where
  pub count : ℕ
  pub accounts : ℕ  -- of C5
  pub bank_codes : ℕ  -- of C4
  pub cents : ℕ  -- of C12

abbrev pub no_totals : Totals
no_totals = record { count = 0; accounts = 0; bank_codes = 0; cents = 0 }

-- totals, and one payment more
abbrev pub adding : Totals → Payment → Totals
adding t p =
    record { count = t.count + 1; accounts = t.accounts + p.account; bank_codes = t.bank_codes + p.bank_code; cents = t.cents + p.cents }

abbrev pub sum_of : (Payment → ℕ) → List Payment → ℕ
sum_of f [] = 0
sum_of f (p ∷ ps) = f p + sum_of f ps

abbrev pub totals : List Payment → Totals
totals ps =
    record {
      count = length ps;
      accounts = sum_of (λ p. p.account) ps;
      bank_codes = sum_of (λ p. p.bank_code) ps;
      cents = sum_of (λ p. p.cents) ps;
    }

-- payments that come to t, and others that come to u
abbrev pub together : Totals → Totals → Totals
together t u =
    record { count = t.count + u.count; accounts = t.accounts + u.accounts; bank_codes = t.bank_codes + u.bank_codes; cents = t.cents + u.cents }
