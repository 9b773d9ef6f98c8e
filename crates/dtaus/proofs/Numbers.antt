-- Which numbers the calls on a file or a listing return: 0, or one of those of the call beneath, or 16 for a result without room.
use Prim.Native.Nat.{ℕ}
use mathlib.Core.Path.{sym, subst}
use mathlib.Core.Bool.{Bool, true, false}
use mathlib.Core.List.{List, [], ◌∷◌}
use lib.ListN.{length}
use lib.Dec.{T, leb}
use Rattle.form.specs.Kind.{every, one_of}
use Rattle.form.proofs.NumberLaws.{one_within}
use Rattle.verdict.specs.Numbers.{of_check, of_load, of_list, of_compose, of_view, from_c}
use Rattle.diskette.specs.Answer.{answer, outcome, Outcome}
use Rattle.diskette.proofs.Promises as form
use Rattle.listing.specs.Composing.{compose}
use Rattle.listing.specs.Endings.{Ending, listed, composed, within}
use Rattle.output.specs.Writing.{written_of}
use Rattle.output.proofs.EndingLaws.{within_number}
use Rattle.loader.specs.Loading.{if_room, loading}
use Rattle.loader.proofs.Promises.{loading_number}
use Rattle.finder.specs.declared.Spot.{Spot}
use Rattle.finder.specs.Spots.{find_at, locate_at}
use Rattle.finder.proofs.Promises as finder
use Rattle.lister.proofs.ListLaws.{listed_number}
use Rattle.composer.proofs.Promises.{composed_number}
use Rattle.dtaus.specs.Calls.{text_named, checking, loading_with, if_told, listing_with, composing_with, if_placed, finding_with, locating_with}
use Rattle.dtaus.proofs.CallLaws.{SaysOutcome, SaysWritten, SaysSpot, SaysLoaded}

-- 16, or a number of the call beneath
module _ (ns : List ℕ) (all : T (every (one_of (0 ∷ from_c ns)) (0 ∷ ns))) where
  abbrev Listed : ℕ → Type 0
  Listed n = T (one_of (0 ∷ from_c ns) n)

  pub beneath : (n : ℕ) → T (one_of (0 ∷ ns) n) → T (one_of (0 ∷ from_c ns) n)
  beneath n h = one_within (0 ∷ ns) (0 ∷ from_c ns) n all h

  outcome_number : (b : Bool) (o : Outcome) → T (one_of (0 ∷ ns) o.verdict.number) → Listed (if_room b o).verdict.number
  outcome_number true o h = beneath o.verdict.number h
  outcome_number false o h = tt

  written_number : (b : Bool) (e : Ending) → T (one_of (0 ∷ ns) (written_of e).verdict.number) → Listed (written_of (if_told b e)).verdict.number
  written_number true e h = beneath (written_of e).verdict.number h
  written_number false e h = tt

  spot_number : (b : Bool) (s : Spot) → T (one_of (0 ∷ ns) s.verdict.number) → Listed (if_placed b s).verdict.number
  spot_number true s h = beneath s.verdict.number h
  spot_number false s h = tt

module _ (result : List ℕ) (r : ℕ) (new : List ℕ) where
  pub check_number : (file : List ℕ) → SaysOutcome (checking result file) result r new → T (one_of (0 ∷ from_c of_check) r)
  unfolding checking
  check_number file says =
      subst (Listed of_check tt) (sym says.0) (outcome_number of_check tt (leb 6 (length result)) (outcome (answer file)) (form.number_listed file))

  pub load_number : (file c4 c5 c12 start c4' c5' c12' start' : List ℕ) → SaysLoaded file c4 c5 c12 start result r c4' c5' c12' start' new
      → T (one_of (0 ∷ from_c of_load) r)
  unfolding loading_with
  load_number file c4 c5 c12 start c4' c5' c12' start' says =
      let columns = c4 ∷ c5 ∷ c12 ∷ start ∷ [] in
      subst (Listed of_load tt) (sym says.0) (outcome_number of_load tt (leb 6 (length result)) (loading columns (answer file)) (loading_number columns file))

  pub list_number : (file output bytes : List ℕ) → SaysWritten (listing_with (length output) result file) output result r bytes new
      → T (one_of (0 ∷ from_c of_list) r)
  unfolding listing_with
  list_number file output bytes says =
      let e = listed (answer file) in
      subst (Listed of_list tt) (sym says.0)
      (written_number of_list tt (leb 3 (length result)) (within (length output) e) (within_number (length output) e (0 ∷ of_list) tt tt (listed_number file)))

  pub compose_number : (lines output bytes : List ℕ) → SaysWritten (composing_with (length output) result lines) output result r bytes new
      → T (one_of (0 ∷ from_c of_compose) r)
  unfolding composing_with
  compose_number lines output bytes says =
      let e = composed (compose lines) in
      subst (Listed of_compose tt) (sym says.0)
      (written_number of_compose tt (leb 3 (length result)) (within (length output) e) (within_number (length output) e (0 ∷ of_compose) tt tt (composed_number lines)))

  pub find_number : (file : List ℕ) (n : ℕ) → SaysSpot (finding_with result file n) result r new → T (one_of (0 ∷ from_c of_view) r)
  unfolding finding_with
  find_number file n says =
      subst (Listed of_view tt) (sym says.0) (spot_number of_view tt (leb 4 (length result)) (find_at file n) (finder.find_number file n))

  pub text_number : (file : List ℕ) (start wanted : ℕ) → SaysSpot (locating_with result file start wanted) result r new → T (one_of (0 ∷ from_c of_view) r)
  unfolding locating_with
  text_number file start wanted says =
      let w = text_named wanted in
      subst (Listed of_view tt) (sym says.0) (spot_number of_view tt (leb 4 (length result)) (locate_at file start w) (finder.locate_number file start w))
