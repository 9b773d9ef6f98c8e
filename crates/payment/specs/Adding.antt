-- What reading a payment answers: the three sums, each with its field of the payment.
use Rattle.std.specs.Prelude.{ℕ, ◌+◌}
use Rattle.document.specs.Values.{Payment}
use Rattle.fields.specs.Answers.{Telling}
use Rattle.sums.specs.declared.Sums.{Sums}

abbrev pub with_payment : Sums → Payment → Sums
with_payment t p =
    record {
      accounts = record { 0 = t.accounts.0 + p.account };
      banks = record { 0 = t.banks.0 + p.bank_code };
      cents = record { 0 = t.cents.0 + p.cents };
    }

-- what is kept of a payment, after payments that come to t: the sums with it
abbrev pub payments_on : Sums → Telling Payment (Sums × ℕ)
payments_on t p q = (with_payment t p, q)
