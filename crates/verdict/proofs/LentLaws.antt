-- What a slice that was lent holds, once it is filled: what was written, and behind it what it held before.
use Prim.Native.Nat.{ℕ}
use mathlib.Core.Path.{◌≡◌, sym, ap, ◌∙◌}
use mathlib.Core.List.{List}
use lib.ListN.{length, take, drop}
use lib.Seq.{take_at, drop_at}
use Rattle.verdict.specs.Lent.{filled}

-- n entries were written from the first place on
module _ (written old : List ℕ) {n : ℕ} {new : List ℕ} (l : n ≡ length written) (f : new ≡ filled written old) where
  pub filled_first : take n new ≡ written
  filled_first = ap (take n) f ∙ take_at written (drop (length written) old) n (sym l)

  pub filled_behind : drop n new ≡ drop n old
  filled_behind = ap (drop n) f ∙ drop_at written (drop (length written) old) n (sym l) ∙ ap (λ k. drop k old) (sym l)
