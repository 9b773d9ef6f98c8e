-- Lists of keys and of supplements as the code tries them.
use Rattle.std.proofs.Common.{◌≡◌, ℕ, Bool, true, false, ◌||◌, List, [], ◌∷◌, eqb, refl}
use Rattle.form.specs.Kind.{one_of}

-- v is tried against one number after another, b telling whether one before them was the same
abbrev tried : ℕ → Bool → List ℕ → Bool
tried v b [] = b
tried v b (x ∷ xs) = tried v (b || eqb v x) xs

tried_or : (v : ℕ) (b : Bool) (xs : List ℕ) → tried v b xs ≡ b || one_of xs v
tried_or v true [] = refl
tried_or v false [] = refl
tried_or v true (x ∷ xs) = tried_or v true xs
tried_or v false (x ∷ xs) = tried_or v (eqb v x) xs

-- where all numbers of a list are tried, the answer is whether v is one of them
pub tried_all : (v x : ℕ) (xs : List ℕ) → tried v (eqb v x) xs ≡ one_of (x ∷ xs) v
tried_all v x xs = tried_or v (eqb v x) xs
