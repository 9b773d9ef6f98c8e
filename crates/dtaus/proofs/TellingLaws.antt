-- Figures told in a result: it holds them afterwards, and behind them what it held before; without room for all of them, what it held before.
use Prim.Native.Nat.{ℕ, ◌≤◌, ◌<◌}
use native.Mathlib.Omega.{arith}
use mathlib.Core.Path.{◌≡◌, refl, sym, ap}
use mathlib.Core.Bool.{cond}
use mathlib.Core.List.{List, [], ◌∷◌}
use lib.ListN.{length, set}
use borrow.Author.Tests.{le-leb, lt-leb}
use Rattle.verdict.specs.Lent.{filled}
use Rattle.dtaus.specs.Figures.{told}

module _ (figures result : List ℕ) where
  -- without room for all figures none is told
  pub not_told : length result < length figures → result ≡ told figures result
  unfolding told
  not_told h = sym (ap (λ b. cond b (filled figures result) result) (lt-leb (length figures) (length result) h))

  -- with room for all figures the result begins with them
  pub all_told : length figures ≤ length result → filled figures result ≡ told figures result
  unfolding told
  all_told h = sym (ap (λ b. cond b (filled figures result) result) (le-leb (length figures) (length result) h))
