-- What the line of a payment is given at the limits, after payments that come to given totals; and that each number of a listing is met by a case.
use Rattle.std.specs.Prelude.{ℕ, ◌-◌, ◌≡◌, refl, List, [], ◌∷◌, ◌++◌, map, T}
use Rattle.form.specs.Kind.{every, one_of}
use Rattle.verdict.specs.Numbers.{of_listing}
use Rattle.document.specs.Signs.{ascii}
use Rattle.document.specs.Values.{Payment, Totals}
use Rattle.document.specs.Rules.{most_payments, most_cents, sum_limit}
use Rattle.diskette.specs.Limits.{coming}
use Rattle.listing.specs.Composing.{Composed, made, denied, compose_payment}
use Rattle.cases.specs.Listings.{Case, cases, words_c, filed}

-- what payments come to, and the number and the place that the line of M's payment is given behind them, its start counted as 0
pub record Limit : Type 0 where
  pub before : Totals
  pub number : ℕ
  pub place : ℕ

abbrev numbered : Composed Payment → ℕ × ℕ
numbered (made q) = (0, 0)
numbered (denied v) = (v.number, v.place)

abbrev reached : Limit → ℕ × ℕ
reached l = numbered (compose_payment (ascii "GK") l.before 0 (map ascii words_c))

unfoldable pub limits : List Limit
limits =
    -- no C may begin: the line's start, and the lower number is given
    record { before = coming most_payments 1 1 1; number = 6; place = 0 }
    ∷ record { before = coming 1 1 1 most_cents; number = 9; place = 0 }
    ∷ record { before = coming most_payments 1 1 most_cents; number = 6; place = 0 }
    -- C4, C5 and C12 take their sums too high
    ∷ record { before = coming 1 1 (sum_limit - 30_050_020) 1; number = 8; place = 11 }
    ∷ record { before = coming 1 (sum_limit - 7_654_321) 1 1; number = 7; place = 20 }
    ∷ record { before = coming 1 1 1 (most_cents - 12_344); number = 9; place = 72 }
    -- C4, C5 and C12 take their sums just to the limits
    ∷ record { before = coming (most_payments - 1) (sum_limit - 7_654_322) (sum_limit - 30_050_021) (most_cents - 12_345); number = 0; place = 0 }
    ∷ []

pub limits_hold : map reached limits ≡ map (λ (l : Limit). (l.number, l.place)) limits
unfolding limits filed
limits_hold = refl

-- each number of a listing is met by a worked listing or, 6 to 8, at the limits
pub numbers_met : T (every (one_of (map (λ (c : Case). c.number) cases ++ map (λ (l : Limit). l.number) limits)) of_listing)
unfolding cases limits
numbers_met = tt
