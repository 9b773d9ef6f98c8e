-- Worked calls on case M: the figures of a result, a result that is longer and one that is too short, and the texts by their numbers.
use Rattle.std.specs.Prelude.{ℕ, ◌≡◌, refl, List, [], ◌∷◌, map, replicate}
use Rattle.diskette.specs.Cases.{file_m, put, given}
use Rattle.finder.specs.declared.Wanted.TheVariants.{C14a, C15, C16, Part as PartText}
use Rattle.finder.specs.Texts.{begun_at}
use Rattle.finder.specs.Spots.{find_at, finding, locate_at, locating}
use Rattle.dtaus.specs.Figures.{outcome_figures, spot_figures, told}
use Rattle.dtaus.specs.Calls.{checking, finding_with, text_named, locating_with}

-- a result of so many numbers, each 7
abbrev pub sevens : ℕ → List ℕ
sevens n = replicate n 7

abbrev pub checked : List ℕ → List ℕ → List ℕ
checked result file = told (outcome_figures (checking result file)) result

-- one payment: accounts 7654321, bank codes 30050020, 12345 cents; the seventh number stays
pub accepted : checked (sevens 7) file_m ≡ 0 ∷ 0 ∷ 1 ∷ 7654321 ∷ 30050020 ∷ 12345 ∷ 7 ∷ []
unfolding told checking given
accepted = refl

-- a key of debits in a file of credits: the figures behind number and place are 0
pub refused : checked (sevens 6) (put 172 "05" file_m) ≡ 12 ∷ 172 ∷ 0 ∷ 0 ∷ 0 ∷ 0 ∷ []
unfolding told checking given
refused = refl

pub no_room : ((checking (sevens 5) file_m).verdict.number ≡ 16) × (checked (sevens 5) file_m ≡ sevens 5)
unfolding told checking given
no_room = (refl, refl)

pub texts_named : map text_named (0 ∷ 1 ∷ 2 ∷ 3 ∷ 17 ∷ []) ≡ C14a ∷ C15 ∷ C16 ∷ PartText 1 ∷ PartText 15 ∷ []
unfolding text_named
texts_named = refl

-- the payment, C14a and the text of its one part
pub found : map spot_figures (finding_with (sevens 4) file_m 0 ∷ locating_with (sevens 4) file_m 128 0 ∷ locating_with (sevens 4) file_m 128 3 ∷ [])
    ≡ (0 ∷ 0 ∷ 128 ∷ 512 ∷ []) ∷ (0 ∷ 0 ∷ 221 ∷ 248 ∷ []) ∷ (0 ∷ 0 ∷ 317 ∷ 344 ∷ []) ∷ []
unfolding finding_with locating_with text_named find_at finding locate_at locating begun_at given
found = refl
