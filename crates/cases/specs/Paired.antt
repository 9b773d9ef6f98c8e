-- A file and a listing with the same change to M: both are given the same number, each at its own place.
use Rattle.std.specs.Prelude.{ℕ, List}
use Rattle.diskette.specs.Cases.{given}
use Rattle.cases.specs.Listings.{filed, reached}

pub record Paired : Type 0 where
  pub file : List ℕ
  pub listing : List ℕ
  pub number : ℕ
  pub place : ℕ
  pub place_in_listing : ℕ

-- the number and the place that the file is given, and those that the listing is given
abbrev pub answers : Paired → (ℕ × ℕ) × (ℕ × ℕ)
answers c = (given (record { file = c.file; number = c.number; place = c.place }), reached (filed c.listing))

abbrev pub wanted_of_both : Paired → (ℕ × ℕ) × (ℕ × ℕ)
wanted_of_both c = ((c.number, c.place), (c.number, c.place_in_listing))
