-- What adding to a total answers: the new total, or that it has too many digits.
use Rattle.std.specs.Prelude.{ℕ, ◌+◌, cond, ltb, leb, Option, Some, None}
use Rattle.document.specs.Rules.{most_cents, sum_limit}
use Rattle.document.specs.Values.{Totals}
use Rattle.sums.specs.declared.AccountSum.{AccountSum}
use Rattle.sums.specs.declared.BankCodeSum.{BankCodeSum}
use Rattle.sums.specs.declared.CentSum.{CentSum}
use Rattle.sums.specs.declared.Sums.{Sums}

-- the account number v, added to the sum of those before
unfoldable pub accounts_added : ℕ → ℕ → Option AccountSum
accounts_added sum v = cond (ltb (sum + v) sum_limit) (Some (record { 0 = sum + v })) None

-- the bank code v, added to the sum of those before
unfoldable pub bank_codes_added : ℕ → ℕ → Option BankCodeSum
bank_codes_added sum v = cond (ltb (sum + v) sum_limit) (Some (record { 0 = sum + v })) None

-- the cents v, added to the sum of those before
unfoldable pub cents_added : ℕ → ℕ → Option CentSum
cents_added sum v = cond (leb (sum + v) most_cents) (Some (record { 0 = sum + v })) None

-- count and sums of the code as the rules' totals
abbrev pub totals_of : ℕ → Sums → Totals
totals_of count t =
    record { count = count; accounts = t.accounts.0; bank_codes = t.banks.0; cents = t.cents.0 }

-- the three sums of the code, of totals
abbrev pub sums_of : Totals → Sums
sums_of t = record { accounts = record { 0 = t.accounts }; banks = record { 0 = t.bank_codes }; cents = record { 0 = t.cents } }
