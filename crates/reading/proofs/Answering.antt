-- What is answered to all that was read is answered to the start of the input.
use Rattle.std.proofs.Common.{◌≡◌, ℕ, List, None, Some, Result, Ok, Err, IfSome, OnOk, take, ap, ◌∙◌, subst}
use Rattle.std.specs.declared.option.Option.{Option}

module _ {T E : Type 0} (Answered : List ℕ → Type 0) (room : ℕ) where
  pub answered_start : (r : Result T E) (known : Option (List ℕ)) (read : List ℕ) (size : ℕ) → size ≡ room → IfSome known (λ input. read ≡ take size input)
      → OnOk r (Answered read) → OnOk r (IfSome known (λ input. Answered (take room input)))
  answered_start (Err e) known read size whole start answer = tt
  answered_start (Ok x) None read size whole start answer = tt
  answered_start (Ok x) (Some input) read size whole start answer = subst Answered (start ∙ ap (λ n. take n input) whole) answer
