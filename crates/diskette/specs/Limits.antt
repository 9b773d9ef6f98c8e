-- What is given at the limits, without a file that reaches them: a C read after payments that come to given totals.
use Rattle.std.specs.Prelude.{ℕ, ◌-◌, ◌≡◌, refl, List, [], ◌∷◌, map, take}
use Rattle.form.specs.Reader.{Answer, accepted, refused, run}
use Rattle.document.specs.Signs.{ascii}
use Rattle.document.specs.Values.{Payment, Totals}
use Rattle.document.specs.Rules.{most_payments, most_cents, sum_limit}
use Rattle.diskette.specs.Fields.{Name, payments}
use Rattle.verdict.specs.Verdicts.{number_of}
use Rattle.diskette.specs.Cases.{payment_m, put, given}

-- what payments come to, the bytes that follow these payments, and the number and the place that the bytes are given
pub record Limit : Type 0 where
  pub before : Totals
  pub bytes : List ℕ
  pub number : ℕ
  pub place : ℕ

abbrev pub numbered : Answer Name (List Payment) → ℕ × ℕ
numbered (accepted ps) = (0, 0)
numbered (refused r) = (number_of r.reason, r.place)

abbrev pub reached : Limit → ℕ × ℕ
reached l = numbered (run (payments (most_payments - l.before.count) (ascii "GK") l.before) l.bytes)

abbrev pub stated : Limit → ℕ × ℕ
stated l = (l.number, l.place)

-- number of payments, accounts, bank codes and cents that went before
abbrev pub coming : ℕ → ℕ → ℕ → ℕ → Totals
coming n a b c = record { count = n; accounts = a; bank_codes = b; cents = c }

unfoldable pub limits : List Limit
limits =
    -- no C may begin, and the lower number is given
    record { before = coming most_payments 1 1 1; bytes = payment_m; number = 6; place = 0 }
    ∷ record { before = coming 1 1 1 most_cents; bytes = payment_m; number = 9; place = 0 }
    ∷ record { before = coming most_payments 1 1 most_cents; bytes = payment_m; number = 6; place = 0 }
    -- whole, then bytes, then a length at all, ahead of the limits
    ∷ record { before = coming most_payments 1 1 most_cents; bytes = take 3 payment_m; number = 1; place = 0 }
    ∷ record { before = coming most_payments 1 1 most_cents; bytes = put 3 "X" payment_m; number = 3; place = 0 }
    ∷ record { before = coming most_payments 1 1 most_cents; bytes = put 0 "0188" payment_m; number = 5; place = 0 }
    -- C4 takes its sum above 17 digits: 8, but 11 comes first; and just fits, where C5 is 7
    ∷ record { before = coming 1 1 (sum_limit - 30_050_020) 1; bytes = payment_m; number = 8; place = 13 }
    ∷ record { before = coming 1 1 (sum_limit - 1) 1; bytes = put 13 "9" payment_m; number = 11; place = 13 }
    ∷ record { before = coming 1 (sum_limit - 7_654_321) (sum_limit - 30_050_021) 1; bytes = payment_m; number = 7; place = 21 }
    ∷ record { before = coming 1 (sum_limit - 1) 1 1; bytes = put 21 "0000000000" payment_m; number = 11; place = 21 }
    -- C12 takes its sum above 13 digits: 9, but 11 comes first
    ∷ record { before = coming 1 (sum_limit - 7_654_322) 1 (most_cents - 12_344); bytes = payment_m; number = 9; place = 79 }
    ∷ record { before = coming 1 1 1 (most_cents - 1); bytes = put 79 "00000000000" payment_m; number = 11; place = 79 }
    -- the sum of C12 just fits, and the file ends behind the payment
    ∷ record { before = coming 1 1 1 (most_cents - 12_345); bytes = payment_m; number = 1; place = 256 }
    ∷ []

pub limits_hold : map reached limits ≡ map stated limits
unfolding limits given
limits_hold = refl
