-- How the calls come to their ends: a result without room is refused ahead of all else, and any other gets the figures of the call beneath.
-- A call tests the room of its result, and how it is to end is defined by the same test, so both cases are one step each: the outcome of the
-- test put into the definition. Without room 16 is returned and nothing is told (`short_outcome`, `short_written`, `short_spot`); with room the
-- figures are those of what the call beneath has ensured (`roomy_outcome`, `roomy_written`, `roomy_spot`). These are proved once for each of the
-- three kinds of result, and each call is an instance.
use Prim.Native.Nat.{ℕ, ◌≤◌, ◌<◌}
use mathlib.Core.Path.{◌≡◌, refl, sym, ap, subst, ◌∙◌}
use mathlib.Core.List.{List, [], ◌∷◌}
use lib.ListN.{length}
use lib.Dec.{leb}
use borrow.Author.Tests.{le-leb, lt-leb}
use Rattle.verdict.specs.Lent.{filled}
use Rattle.diskette.specs.Answer.{answer, outcome, Outcome}
use Rattle.sums.specs.Sums.{totals_of}
use Rattle.listing.specs.Composing.{compose}
use Rattle.listing.specs.Endings.{Ending, listed, composed, within, written}
use Rattle.output.specs.declared.Written.{Written}
use Rattle.output.specs.Writing.{written_of}
use Rattle.checker.specs.declared.Checked.{Checked}
use Rattle.checker.specs.Checking.{checked_of}
use Rattle.loader.specs.Columns.{bank_codes, accounts, cents, starts}
use Rattle.loader.specs.Loading.{if_room, loading}
use Rattle.loader.proofs.LoadLaws as columns
use Rattle.finder.specs.declared.Spot.{Spot}
use Rattle.finder.specs.Spots.{find_at, locate_at}
use Rattle.dtaus.specs.Figures.{outcome_figures, written_figures, spot_figures, told}
use Rattle.dtaus.specs.Calls.{text_named, checking, loading_with, rows_of, if_told, listing_with, composing_with, if_placed, finding_with, locating_with}
use Rattle.dtaus.proofs.TellingLaws.{not_told}

-- ---- what the calls say: the number that is returned, and what the lent slices hold afterwards

abbrev pub SaysOutcome : Outcome → List ℕ → ℕ → List ℕ → Type 0
SaysOutcome o result r new = (r ≡ o.verdict.number) × (new ≡ told (outcome_figures o) result)

abbrev pub SaysWritten : Ending → List ℕ → List ℕ → ℕ → List ℕ → List ℕ → Type 0
SaysWritten e output result r bytes new =
    (r ≡ (written_of e).verdict.number) × ((bytes ≡ filled (written e) output) × (new ≡ told (written_figures (written_of e)) result))

abbrev pub SaysSpot : Spot → List ℕ → ℕ → List ℕ → Type 0
SaysSpot s result r new = (r ≡ s.verdict.number) × (new ≡ told (spot_figures s) result)

-- what a load says, of its columns too
abbrev pub SaysLoaded : List ℕ → List ℕ → List ℕ → List ℕ → List ℕ → List ℕ → ℕ → List ℕ → List ℕ → List ℕ → List ℕ → List ℕ → Type 0
SaysLoaded file c4 c5 c12 start result r c4' c5' c12' start' new =
    (r ≡ (loading_with (c4 ∷ c5 ∷ c12 ∷ start ∷ []) result file).verdict.number)
    × ((c4' ≡ filled (bank_codes (rows_of r file)) c4)
    × ((c5' ≡ filled (accounts (rows_of r file)) c5)
    × ((c12' ≡ filled (cents (rows_of r file)) c12)
    × ((start' ≡ filled (starts (rows_of r file)) start)
    × (new ≡ told (outcome_figures (loading_with (c4 ∷ c5 ∷ c12 ∷ start ∷ []) result file)) result)))))

-- ---- a result without room

module _ (result : List ℕ) where
  short_outcome : (o : Outcome) → length result < 6 → SaysOutcome (if_room (leb 6 (length result)) o) result 16 result
  short_outcome o h = subst (λ b. SaysOutcome (if_room b o) result 16 result) (sym (lt-leb 6 (length result) h)) (refl, not_told _ result h)

  pub check_short : (file : List ℕ) → length result < 6 → SaysOutcome (checking result file) result 16 result
  unfolding checking
  check_short file h = short_outcome (outcome (answer file)) h

  short_written : (e : Ending) (output : List ℕ) → length result < 3 → SaysWritten (if_told (leb 3 (length result)) e) output result 16 output result
  short_written e output h =
      subst (λ b. SaysWritten (if_told b e) output result 16 output result) (sym (lt-leb 3 (length result) h)) (refl, (refl, not_told _ result h))

  pub list_short : (file output : List ℕ) → length result < 3 → SaysWritten (listing_with (length output) result file) output result 16 output result
  unfolding listing_with
  list_short file output h = short_written (within (length output) (listed (answer file))) output h

  pub compose_short : (lines output : List ℕ) → length result < 3 → SaysWritten (composing_with (length output) result lines) output result 16 output result
  unfolding composing_with
  compose_short lines output h = short_written (within (length output) (composed (compose lines))) output h

  short_spot : (s : Spot) → length result < 4 → SaysSpot (if_placed (leb 4 (length result)) s) result 16 result
  short_spot s h = subst (λ b. SaysSpot (if_placed b s) result 16 result) (sym (lt-leb 4 (length result) h)) (refl, not_told _ result h)

  pub find_short : (file : List ℕ) (n : ℕ) → length result < 4 → SaysSpot (finding_with result file n) result 16 result
  unfolding finding_with
  find_short file n h = short_spot (find_at file n) h

  pub text_short : (file : List ℕ) (start wanted : ℕ) → length result < 4 → SaysSpot (locating_with result file start wanted) result 16 result
  unfolding locating_with
  text_short file start wanted h = short_spot (locate_at file start (text_named wanted)) h

  pub load_short : (file c4 c5 c12 start : List ℕ) → length result < 6 → SaysLoaded file c4 c5 c12 start result 16 c4 c5 c12 start result
  unfolding loading_with
  load_short file c4 c5 c12 start h =
      let s = short_outcome (loading (c4 ∷ c5 ∷ c12 ∷ start ∷ []) (answer file)) h in
      (s.0, (refl, (refl, (refl, (refl, s.1)))))

  -- ---- a result with room

  roomy_outcome : (o : Outcome) → 6 ≤ length result → {new : List ℕ} → new ≡ told (outcome_figures o) result
      → SaysOutcome (if_room (leb 6 (length result)) o) result o.verdict.number new
  roomy_outcome o h {new} e = subst (λ b. SaysOutcome (if_room b o) result o.verdict.number new) (sym (le-leb 6 (length result) h)) (refl, e)

  pub check_told : (file : List ℕ) → 6 ≤ length result → {c : Checked} → c ≡ checked_of (outcome (answer file)) → {new : List ℕ}
      → new ≡ told (outcome_figures (record { verdict = c.verdict; totals = totals_of c.count c.sums })) result
      → SaysOutcome (checking result file) result c.verdict.number new
  unfolding checking
  check_told file h {c} e {new} i =
      subst (λ (x : Checked). SaysOutcome (if_room (leb 6 (length result)) (outcome (answer file))) result x.verdict.number new) (sym e)
      (roomy_outcome (outcome (answer file)) h
      (i ∙ ap (λ (x : Checked). told (outcome_figures (record { verdict = x.verdict; totals = totals_of x.count x.sums })) result) e))

  pub load_told : (file c4 c5 c12 start : List ℕ) → 6 ≤ length result → {l : Checked} {c4' c5' c12' start' : List ℕ}
      → columns.Says file c4 c5 c12 start l c4' c5' c12' start' → {new : List ℕ}
      → new ≡ told (outcome_figures (record { verdict = l.verdict; totals = totals_of l.count l.sums })) result
      → SaysLoaded file c4 c5 c12 start result l.verdict.number c4' c5' c12' start' new
  unfolding loading_with
  load_told file c4 c5 c12 start h {l} {c4'} {c5'} {c12'} {start'} s {new} i =
      let o = loading (c4 ∷ c5 ∷ c12 ∷ start ∷ []) (answer file) in
      let t = subst (λ (x : Checked). SaysOutcome (if_room (leb 6 (length result)) o) result x.verdict.number new) (sym s.0)
      (roomy_outcome o h
      (i ∙ ap (λ (x : Checked). told (outcome_figures (record { verdict = x.verdict; totals = totals_of x.count x.sums })) result) s.0)) in
      (t.0, (s.1.0, (s.1.1.0, (s.1.1.1.0, (s.1.1.1.1, t.1)))))

  roomy_written : (e : Ending) (output : List ℕ) → 3 ≤ length result → {w : Written} → w ≡ written_of e → {bytes : List ℕ} → bytes ≡ filled (written e) output
      → {new : List ℕ} → new ≡ told (written_figures w) result → SaysWritten (if_told (leb 3 (length result)) e) output result w.verdict.number bytes new
  roomy_written e output h {w} i {bytes} j {new} k =
      subst (λ b. SaysWritten (if_told b e) output result w.verdict.number bytes new) (sym (le-leb 3 (length result) h))
      (ap (λ (x : Written). x.verdict.number) i, (j, k ∙ ap (λ (x : Written). told (written_figures x) result) i))

  module _ (h : 3 ≤ length result) (output : List ℕ) {w : Written} {bytes new : List ℕ} (k : new ≡ told (written_figures w) result) where
    pub list_told : (file : List ℕ)
        → (w ≡ written_of (within (length output) (listed (answer file)))) × (bytes ≡ filled (written (within (length output) (listed (answer file)))) output)
        → SaysWritten (listing_with (length output) result file) output result w.verdict.number bytes new
    unfolding listing_with
    list_told file s = roomy_written (within (length output) (listed (answer file))) output h s.0 s.1 k

    pub compose_told : (lines : List ℕ)
        → (w ≡ written_of (within (length output) (composed (compose lines)))) × (bytes ≡ filled (written (within (length output) (composed (compose lines)))) output)
        → SaysWritten (composing_with (length output) result lines) output result w.verdict.number bytes new
    unfolding composing_with
    compose_told lines s = roomy_written (within (length output) (composed (compose lines))) output h s.0 s.1 k

  module _ (h : 4 ≤ length result) {s : Spot} {new : List ℕ} (k : new ≡ told (spot_figures s) result) where
    roomy_spot : (t : Spot) → s ≡ t → SaysSpot (if_placed (leb 4 (length result)) t) result s.verdict.number new
    roomy_spot t e =
        subst (λ b. SaysSpot (if_placed b t) result s.verdict.number new) (sym (le-leb 4 (length result) h))
        (ap (λ (x : Spot). x.verdict.number) e, k ∙ ap (λ (x : Spot). told (spot_figures x) result) e)

    pub find_told : (file : List ℕ) (n : ℕ) → s ≡ find_at file n → SaysSpot (finding_with result file n) result s.verdict.number new
    unfolding finding_with
    find_told file n e = roomy_spot (find_at file n) e

    pub text_told : (file : List ℕ) (start wanted : ℕ) → s ≡ locate_at file start (text_named wanted) → SaysSpot (locating_with result file start wanted) result s.verdict.number new
    unfolding locating_with
    text_told file start wanted e = roomy_spot (locate_at file start (text_named wanted)) e
