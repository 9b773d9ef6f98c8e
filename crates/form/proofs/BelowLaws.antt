-- Every number below another: what is computed of all of them holds of each.
use Prim.Native.Nat.{ℕ, zero, suc, ◌<◌}
use native.Mathlib.Decide.{dec_lt}
use native.Mathlib.Omega.{arith}
use mathlib.Core.Path.{◌≡◌}
use mathlib.Core.List.{List, [], ◌∷◌, map}

unfoldable pub below : ℕ → List ℕ
below zero = []
below (suc n) = n ∷ below n

-- two functions that give the same list of them give the same for each
pub agree : {X : Type 0} (f g : ℕ → X) (n i : ℕ) → map f (below n) ≡ map g (below n) → i < n → f i ≡ g i
unfolding below
agree f g zero i e h = absurd (omega arith)
agree f g (suc n) i e h =
    elim (dec_lt i n) [ yes l ↦ agree f g n i (cc) l | no l ↦ let k : i ≡ n = omega arith in let o : f n ≡ g n = cc in rw k o ]
