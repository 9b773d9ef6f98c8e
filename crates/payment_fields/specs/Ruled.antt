-- A number with one rule. Only private functions go by this.
use Rattle.std.specs.Prelude.{ℕ, ◌≡◌, Bool, List, [], ◌∷◌}
use Rattle.form.specs.Form.{Rule, rule}

-- what a test may answer to v is what holds says
abbrev pub Computes : (ℕ → Bool → Type 0) → (ℕ → Bool) → Type 0
Computes post holds = (v : ℕ) (b : Bool) → post v b → b ≡ holds v

abbrev pub one_rule : ℕ → (ℕ → Bool) → ℕ → List Rule
one_rule n holds v = rule n (holds v) ∷ []
