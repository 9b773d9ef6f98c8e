-- What a call leaves in the slices that it is lent.
use Rattle.std.specs.Prelude.{ℕ, List, ◌++◌, length, drop}

-- what was written, from the first place on, and behind it what was there before; a refused call has written nothing
abbrev pub filled : List ℕ → List ℕ → List ℕ
filled new old = new ++ drop (length new) old
