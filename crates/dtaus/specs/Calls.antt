-- How each call of the library ends. A result that is shorter than the call's figures is refused ahead of all else, 16 at 0.
use Rattle.std.specs.Prelude.{ℕ, zero, suc, Bool, cond, List, length, leb, eqb}
use Rattle.verdict.specs.Verdicts.{refusing}
use Rattle.document.specs.Values.{Payment, Document}
use Rattle.diskette.specs.Answer.{answer, outcome, Outcome, payments_of}
use Rattle.diskette.specs.Medium.{medium_answer, files_of, MediumOutcome, medium_outcome}
use Rattle.listing.specs.Composing.{compose}
use Rattle.listing.specs.Endings.{Ending, refuses, listed, composed, within}
use Rattle.loader.specs.Loading.{if_room, loading, if_loaded}
use Rattle.loader.specs.Medium.{if_medium_room, medium_loading, if_medium_loaded}
use Rattle.finder.specs.declared.Wanted.{Wanted}
use Rattle.finder.specs.declared.Wanted.TheVariants.{C14a, C15, C16, Part as PartText}
use Rattle.finder.specs.declared.Spot.{Spot}
use Rattle.finder.specs.Spots.{nowhere, find_at, locate_at}

-- the result has room for so many figures
abbrev pub room_for : ℕ → List ℕ → Bool
room_for n result = leb n (length result)

-- ---- a check and a load

unfoldable pub checking : List ℕ → List ℕ → Outcome
checking result file = if_room (room_for 6 result) (outcome (answer file))

unfoldable pub loading_with : List (List ℕ) → List ℕ → List ℕ → Outcome
loading_with columns result file = if_room (room_for 6 result) (loading columns (answer file))

-- the payments whose rows are written, where the call returns this number: with 0 all of them, else none
abbrev pub rows_of : ℕ → List ℕ → List Payment
rows_of number file = if_loaded (eqb number 0) (payments_of (answer file))

-- ---- a check and a load of a medium

unfoldable pub checking_medium : List ℕ → List ℕ → MediumOutcome
checking_medium result medium = if_medium_room (room_for 4 result) (medium_outcome (medium_answer medium))

unfoldable pub loading_medium : List (List ℕ) → List (List ℕ) → List ℕ → List ℕ → MediumOutcome
loading_medium columns table result medium = if_medium_room (room_for 4 result) (medium_loading columns table (medium_answer medium))

-- the files that are written into columns and table, where the call returns this number: with 0 all of them, else none
abbrev pub files_with : ℕ → List ℕ → List Document
files_with number medium = if_medium_loaded (eqb number 0) (files_of (medium_answer medium))

-- ---- a listing and a composing, with an output of so much room

abbrev pub if_told : Bool → Ending → Ending
if_told told end = cond told end (refuses (refusing 16 0))

unfoldable pub listing_with : ℕ → List ℕ → List ℕ → Ending
listing_with room result file = if_told (room_for 3 result) (within room (listed (answer file)))

unfoldable pub composing_with : ℕ → List ℕ → List ℕ → Ending
composing_with room result lines = if_told (room_for 3 result) (within room (composed (compose lines)))

-- ---- stretches of the file

abbrev pub if_placed : Bool → Spot → Spot
if_placed told spot = cond told spot (nowhere (refusing 16 0))

unfoldable pub finding_with : List ℕ → List ℕ → ℕ → Spot
finding_with result file n = if_placed (room_for 4 result) (find_at file n)

-- a text by its number: C14a, C15 and C16 are 0, 1 and 2, and the text of part i is 2 + i
unfoldable pub text_named : ℕ → Wanted
text_named zero = C14a
text_named (suc zero) = C15
text_named (suc (suc zero)) = C16
text_named (suc (suc (suc i))) = PartText (suc i)

unfoldable pub locating_with : List ℕ → List ℕ → ℕ → ℕ → Spot
locating_with result file start wanted = if_placed (room_for 4 result) (locate_at file start (text_named wanted))
