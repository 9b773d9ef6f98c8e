-- What only private functions go by, and no public promise cites: whether something was found, and whether a payment has a text.
use Rattle.std.specs.Prelude.{ℕ, Bool, true, false, ◌&&◌, leb}
use Rattle.std.proofs.Math.Option.{Option, none, some}
use Rattle.finder.specs.declared.Wanted.{Wanted}
use Rattle.finder.specs.declared.Wanted.TheVariants.{C14a, C15, C16, Part as PartText}

abbrev pub found : {A : Type 0} → Option A → Bool
found none = false
found (some a) = true

-- a payment of k parts has the text
abbrev pub has_text : Wanted → ℕ → Bool
has_text C14a k = true
has_text C15 k = true
has_text C16 k = true
has_text (PartText i) k = leb 1 i && leb i k
