-- How the calls on a medium come to their ends: as `CallLaws` tells of those on a file, with four figures.
use Prim.Native.Nat.{ℕ, ◌≤◌, ◌<◌}
use mathlib.Core.Path.{◌≡◌, refl, sym, ap, subst, ◌∙◌}
use mathlib.Core.List.{List, [], ◌∷◌}
use lib.ListN.{length}
use lib.Dec.{leb}
use borrow.Author.Tests.{le-leb, lt-leb}
use Rattle.verdict.specs.Lent.{filled}
use Rattle.document.specs.Medium.{all_payments}
use Rattle.diskette.specs.Medium.{medium_answer, MediumOutcome, medium_outcome}
use Rattle.medium.specs.declared.MediumChecked.{MediumChecked}
use Rattle.medium.specs.Checking.{medium_checked_of}
use Rattle.loader.specs.Columns.{bank_codes, accounts, cents}
use Rattle.loader.specs.Medium.{medium_starts, file_starts, file_counts, file_accounts, file_bank_codes, file_cents, if_medium_room, medium_loading}
use Rattle.loader.proofs.MediumLoadLaws.{MediumFilled, MediumSays}
use Rattle.dtaus.specs.Figures.{medium_figures, told}
use Rattle.dtaus.specs.Calls.{checking_medium, loading_medium, files_with}
use Rattle.dtaus.proofs.TellingLaws.{not_told}

-- ---- what the calls say: the number that is returned, and what the lent slices hold afterwards

abbrev pub SaysMedium : MediumOutcome → List ℕ → ℕ → List ℕ → Type 0
SaysMedium o result r new = (r ≡ o.verdict.number) × (new ≡ told (medium_figures o) result)

-- what a load of a medium says, of its columns too
abbrev pub SaysMediumLoaded : List ℕ → List ℕ → List ℕ → List ℕ → List ℕ → List ℕ → List ℕ → List ℕ → List ℕ → List ℕ → List ℕ → ℕ → List ℕ → List ℕ → List ℕ → List ℕ → List ℕ → List ℕ → List ℕ → List ℕ → List ℕ → List ℕ → Type 0
SaysMediumLoaded medium c4 c5 c12 start begin count sum5 sum4 sum12 result r c4' c5' c12' start' begin' count' sum5' sum4' sum12' new =
    let o = loading_medium (c4 ∷ c5 ∷ c12 ∷ start ∷ []) (begin ∷ count ∷ sum5 ∷ sum4 ∷ sum12 ∷ []) result medium in
    let all = files_with r medium in
    let ps = all_payments all in
    (r ≡ o.verdict.number)
    × ((c4' ≡ filled (bank_codes ps) c4)
    × ((c5' ≡ filled (accounts ps) c5)
    × ((c12' ≡ filled (cents ps) c12)
    × ((start' ≡ filled (medium_starts 0 all) start)
    × ((begin' ≡ filled (file_starts 0 all) begin)
    × ((count' ≡ filled (file_counts all) count)
    × ((sum5' ≡ filled (file_accounts all) sum5)
    × ((sum4' ≡ filled (file_bank_codes all) sum4)
    × ((sum12' ≡ filled (file_cents all) sum12)
    × (new ≡ told (medium_figures o) result))))))))))

-- it is what is said of number and result, and what is said of the columns
pub loaded_from : (medium c4 c5 c12 start begin count sum5 sum4 sum12 result : List ℕ) {c4' c5' c12' start' begin' count' sum5' sum4' sum12' new : List ℕ} {r : ℕ}
    → SaysMedium (loading_medium (c4 ∷ c5 ∷ c12 ∷ start ∷ []) (begin ∷ count ∷ sum5 ∷ sum4 ∷ sum12 ∷ []) result medium) result r new
    → MediumFilled (files_with r medium) c4 c5 c12 start begin count sum5 sum4 sum12 c4' c5' c12' start' begin' count' sum5' sum4' sum12'
    → SaysMediumLoaded medium c4 c5 c12 start begin count sum5 sum4 sum12 result r c4' c5' c12' start' begin' count' sum5' sum4' sum12' new
loaded_from medium c4 c5 c12 start begin count sum5 sum4 sum12 result s f = (
  s.0,
  (
    f.0,
    (
      f.1.0,
      (
        f.1.1.0,
        (
          f.1.1.1.0,
          (f.1.1.1.1.0, (f.1.1.1.1.1.0, (f.1.1.1.1.1.1.0, (f.1.1.1.1.1.1.1.0, (f.1.1.1.1.1.1.1.1, s.1))))),
        ),
      ),
    ),
  ),
)

-- and what it says of the columns
pub of_columns : (medium c4 c5 c12 start begin count sum5 sum4 sum12 result : List ℕ) {c4' c5' c12' start' begin' count' sum5' sum4' sum12' new : List ℕ} {r : ℕ}
    → SaysMediumLoaded medium c4 c5 c12 start begin count sum5 sum4 sum12 result r c4' c5' c12' start' begin' count' sum5' sum4' sum12' new → MediumFilled (files_with r medium) c4 c5 c12 start begin count sum5 sum4 sum12 c4' c5' c12' start' begin' count' sum5' sum4' sum12'
of_columns medium c4 c5 c12 start begin count sum5 sum4 sum12 result x = (
  x.1.0,
  (
    x.1.1.0,
    (
      x.1.1.1.0,
      (
        x.1.1.1.1.0,
        (
          x.1.1.1.1.1.0,
          (x.1.1.1.1.1.1.0, (x.1.1.1.1.1.1.1.0, (x.1.1.1.1.1.1.1.1.0, x.1.1.1.1.1.1.1.1.1.0))),
        ),
      ),
    ),
  ),
)

-- the figures that the code tells of what a call beneath gave back
abbrev pub outcome_of : MediumChecked → MediumOutcome
outcome_of c = record { verdict = c.verdict; files = c.files; payments = c.payments }

module _ (result : List ℕ) where
  -- ---- a result without room

  short_medium : (o : MediumOutcome) → length result < 4 → SaysMedium (if_medium_room (leb 4 (length result)) o) result 16 result
  short_medium o h = subst (λ b. SaysMedium (if_medium_room b o) result 16 result) (sym (lt-leb 4 (length result) h)) (refl, not_told _ result h)

  pub check_medium_short : (medium : List ℕ) → length result < 4 → SaysMedium (checking_medium result medium) result 16 result
  unfolding checking_medium
  check_medium_short medium h = short_medium (medium_outcome (medium_answer medium)) h

  pub load_medium_short : (medium c4 c5 c12 start begin count sum5 sum4 sum12 : List ℕ) → length result < 4 → SaysMediumLoaded medium c4 c5 c12 start begin count sum5 sum4 sum12 result 16 c4 c5 c12 start begin count sum5 sum4 sum12 result
  unfolding loading_medium
  load_medium_short medium c4 c5 c12 start begin count sum5 sum4 sum12 h =
      loaded_from medium c4 c5 c12 start begin count sum5 sum4 sum12 result
      (short_medium (medium_loading (c4 ∷ c5 ∷ c12 ∷ start ∷ []) (begin ∷ count ∷ sum5 ∷ sum4 ∷ sum12 ∷ []) (medium_answer medium)) h)
      (refl, (refl, (refl, (refl, (refl, (refl, (refl, (refl, refl))))))))

  -- ---- a result with room

  roomy_medium : (o : MediumOutcome) → 4 ≤ length result → {c : MediumChecked} → c ≡ medium_checked_of o → {new : List ℕ}
      → new ≡ told (medium_figures (outcome_of c)) result → SaysMedium (if_medium_room (leb 4 (length result)) o) result c.verdict.number new
  roomy_medium o h {c} e {new} i =
      subst (λ b. SaysMedium (if_medium_room b o) result c.verdict.number new) (sym (le-leb 4 (length result) h))
      (ap (λ (x : MediumChecked). x.verdict.number) e, i ∙ ap (λ (x : MediumChecked). told (medium_figures (outcome_of x)) result) e)

  pub check_medium_told : (medium : List ℕ) → 4 ≤ length result → {c : MediumChecked} → c ≡ medium_checked_of (medium_outcome (medium_answer medium)) → {new : List ℕ}
      → new ≡ told (medium_figures (outcome_of c)) result → SaysMedium (checking_medium result medium) result c.verdict.number new
  unfolding checking_medium
  check_medium_told medium h e i = roomy_medium (medium_outcome (medium_answer medium)) h e i

  pub load_medium_told : (medium c4 c5 c12 start begin count sum5 sum4 sum12 : List ℕ) → 4 ≤ length result → {c : MediumChecked} {c4' c5' c12' start' begin' count' sum5' sum4' sum12' : List ℕ}
      → MediumSays medium c4 c5 c12 start begin count sum5 sum4 sum12 c c4' c5' c12' start' begin' count' sum5' sum4' sum12' → {new : List ℕ} → new ≡ told (medium_figures (outcome_of c)) result
      → SaysMediumLoaded medium c4 c5 c12 start begin count sum5 sum4 sum12 result c.verdict.number c4' c5' c12' start' begin' count' sum5' sum4' sum12' new
  unfolding loading_medium
  load_medium_told medium c4 c5 c12 start begin count sum5 sum4 sum12 h s i =
      loaded_from medium c4 c5 c12 start begin count sum5 sum4 sum12 result
      (roomy_medium (medium_loading (c4 ∷ c5 ∷ c12 ∷ start ∷ []) (begin ∷ count ∷ sum5 ∷ sum4 ∷ sum12 ∷ []) (medium_answer medium)) h s.0 i) s.1
