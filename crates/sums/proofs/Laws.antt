-- What the answers of the adding functions tell: the total has room for the number, and what it comes to; or it has none.
use Rattle.std.proofs.Common.{◌≡◌, ℕ, ◌+◌, Bool, true, false, cond, Option, Some, None, leb, ltb, refl, sym, ◌∙◌}
use Rattle.document.specs.Rules.{most_cents, sum_limit}
use Rattle.sums.specs.declared.AccountSum.{AccountSum}
use Rattle.sums.specs.declared.BankCodeSum.{BankCodeSum}
use Rattle.sums.specs.declared.CentSum.{CentSum}
use Rattle.sums.specs.Sums.{accounts_added, bank_codes_added, cents_added}

-- ---- x where a test holds

module _ {T : Type 0} (x : T) where
  some_if : (b : Bool) {t : T} → cond b (Some x) None ≡ Some t → (b ≡ true) × (t ≡ x)
  some_if true e = (refl, cc)
  some_if false e = absurd cc

  none_if : (b : Bool) → cond b (Some x) None ≡ None → b ≡ false
  none_if true e = absurd cc
  none_if false e = refl

-- ---- the three totals

module _ (sum v : ℕ) where
  pub accounts_within : {a : Option AccountSum} → a ≡ accounts_added sum v → {t : AccountSum} → a ≡ Some t → (ltb (sum + v) sum_limit ≡ true) × (t ≡ record { 0 = sum + v })
  unfolding accounts_added
  accounts_within told given = some_if _ (ltb (sum + v) sum_limit) (sym told ∙ given)

  pub accounts_over : {a : Option AccountSum} → a ≡ accounts_added sum v → a ≡ None → ltb (sum + v) sum_limit ≡ false
  unfolding accounts_added
  accounts_over told given = none_if _ (ltb (sum + v) sum_limit) (sym told ∙ given)

  pub bank_codes_within : {a : Option BankCodeSum} → a ≡ bank_codes_added sum v → {t : BankCodeSum} → a ≡ Some t → (ltb (sum + v) sum_limit ≡ true) × (t ≡ record { 0 = sum + v })
  unfolding bank_codes_added
  bank_codes_within told given = some_if _ (ltb (sum + v) sum_limit) (sym told ∙ given)

  pub bank_codes_over : {a : Option BankCodeSum} → a ≡ bank_codes_added sum v → a ≡ None → ltb (sum + v) sum_limit ≡ false
  unfolding bank_codes_added
  bank_codes_over told given = none_if _ (ltb (sum + v) sum_limit) (sym told ∙ given)

  pub cents_within : {a : Option CentSum} → a ≡ cents_added sum v → {t : CentSum} → a ≡ Some t → (leb (sum + v) most_cents ≡ true) × (t ≡ record { 0 = sum + v })
  unfolding cents_added
  cents_within told given = some_if _ (leb (sum + v) most_cents) (sym told ∙ given)

  pub cents_over : {a : Option CentSum} → a ≡ cents_added sum v → a ≡ None → leb (sum + v) most_cents ≡ false
  unfolding cents_added
  cents_over told given = none_if _ (leb (sum + v) most_cents) (sym told ∙ given)
