-- How far it is to a byte.
use Rattle.std.specs.Prelude.{ℕ, suc, cond, List, [], ◌∷◌, eqb}

-- how many bytes stand before the first z
unfoldable pub reach : ℕ → List ℕ → ℕ
reach z [] = 0
reach z (b ∷ bs) = let r = reach z bs in cond (eqb b z) 0 (suc r)
