-- What payments come to: totals added up, and the digits that they take. The sums of account numbers and of bank codes never pass 17 digits:
-- ten digits and eight digits, added at most 9,999,999 times.
use Prim.Native.Nat.{ℕ, ◌+◌, ◌*◌, ◌^◌, ◌≤◌, ◌<◌}
use native.Mathlib.Omega.{arith}
use mathlib.Core.Path.{◌≡◌}
use mathlib.Core.List.{List, [], ◌∷◌}
use Rattle.document.specs.Values.{Payment, Totals, no_totals, adding, totals, together}
use Rattle.document.specs.Rules.{All, most_payments, most_cents, sum_limit, LegalPayment}

-- ---- totals added up

same_totals : (t u : Totals) → t.count ≡ u.count → t.accounts ≡ u.accounts → t.bank_codes ≡ u.bank_codes → t.cents ≡ u.cents → t ≡ u
same_totals t u n a b c i = record { count = n i; accounts = a i; bank_codes = b i; cents = c i }

pub together_none : (u : Totals) → together no_totals u ≡ u
together_none u = same_totals (together no_totals u) u (omega arith) (omega arith) (omega arith) (omega arith)

pub together_nothing : (t : Totals) → together t (totals []) ≡ t
together_nothing t = same_totals (together t (totals [])) t (omega arith) (omega arith) (omega arith) (omega arith)

pub together_more : (t : Totals) (p : Payment) (ps : List Payment) → together t (totals (p ∷ ps)) ≡ together (adding t p) (totals ps)
together_more t p ps = same_totals (together t (totals (p ∷ ps))) (together (adding t p) (totals ps)) (omega arith) (omega arith) (omega arith) (omega arith)

-- ---- the digits that totals take

-- the number of payments has seven digits, the cents have thirteen
pub count_fits : (n : ℕ) → n ≤ most_payments → n < 10 ^ 7
count_fits n h = omega arith

pub cents_fit : (n : ℕ) → n ≤ most_cents → n < 10 ^ 13
cents_fit n h = omega arith

-- totals of numbers of ten and of eight digits
pub record Bounded (t : Totals) : Type 0 where
  pub accounts : t.accounts ≤ 9_999_999_999 * t.count
  pub bank_codes : t.bank_codes ≤ 99_999_999 * t.count

pub bounded_none : Bounded no_totals
bounded_none = record { accounts = omega arith; bank_codes = omega arith }

pub bounded_adding : (kind : List ℕ) (t : Totals) (p : Payment) → Bounded t → LegalPayment kind p → Bounded (adding t p)
bounded_adding kind t p b l =
    record { accounts = omega (arith, b.accounts, l.C5); bank_codes = omega (arith, b.bank_codes, l.C4) }

-- as long as a payment may begin, no account number and no bank code takes its sum above 17 digits: nothing reaches 7 or 8
module _ (t : Totals) (b : Bounded t) (more : t.count < most_payments) where
  pub account_room : (v : ℕ) → v < 10 ^ 10 → t.accounts + v < sum_limit
  account_room v h = omega (arith, b.accounts)

  pub bank_room : (v : ℕ) → v < 10 ^ 8 → t.bank_codes + v < sum_limit
  bank_room v h = omega (arith, b.bank_codes)

bounded_all : (kind : List ℕ) (ps : List Payment) → All (LegalPayment kind) ps → Bounded (totals ps)
bounded_all kind [] l = bounded_none
bounded_all kind (p ∷ ps) l =
    let b = bounded_all kind ps l.1 in
    let q = l.0 in
    record { accounts = omega (arith, b.accounts, q.C5); bank_codes = omega (arith, b.bank_codes, q.C4) }

-- the two limits of 17 digits in the rules follow from the others
pub sums_fit : (kind : List ℕ) (ps : List Payment) → All (LegalPayment kind) ps → (totals ps).count ≤ most_payments
    → ((totals ps).accounts < sum_limit) × ((totals ps).bank_codes < sum_limit)
sums_fit kind ps l h = let b = bounded_all kind ps l in (omega (arith, b.accounts), omega (arith, b.bank_codes))
