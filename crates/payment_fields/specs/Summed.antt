-- What reading a field that is summed keeps: the total with its number.
use Rattle.std.specs.Prelude.{ℕ, ◌+◌}
use Rattle.fields.specs.Answers.{Telling}
use Rattle.sums.specs.declared.AccountSum.{AccountSum}
use Rattle.sums.specs.declared.BankCodeSum.{BankCodeSum}
use Rattle.sums.specs.declared.CentSum.{CentSum}

-- a number v, given where its field keeps the rules, leads to the total sum + v
abbrev pub accounts_on : ℕ → Telling ℕ (AccountSum × ℕ)
accounts_on sum v q = (record { 0 = sum + v }, q)

abbrev pub bank_codes_on : ℕ → Telling ℕ (BankCodeSum × ℕ)
bank_codes_on sum v q = (record { 0 = sum + v }, q)

abbrev pub cents_on : ℕ → Telling ℕ (CentSum × ℕ)
cents_on sum v q = (record { 0 = sum + v }, q)
