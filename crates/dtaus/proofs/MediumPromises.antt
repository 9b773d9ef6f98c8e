-- What the statements of the two calls on a medium come to: each admits one answer, and gives one of its numbers; a result without room is 16, and
-- nothing is written; a result with room begins with the figures, and the statement is that of the call beneath.
-- As for the calls on a file (`Promises`): the statement is an equation with how the call ends, and that is decided by the room in the result.
use Prim.Native.Nat.{ℕ, ◌≤◌, ◌<◌}
use mathlib.Core.Path.{◌≡◌, refl, sym, ap, subst, ◌∙◌}
use mathlib.Core.Logic.{◌≢◌}
use mathlib.Core.Bool.{Bool, true, false}
use mathlib.Core.List.{List, [], ◌∷◌}
use lib.ListN.{length}
use lib.Dec.{T, leb}
use borrow.Author.Tests.{le-leb, ne_eqb}
use Rattle.form.specs.Kind.{every, one_of}
use Rattle.verdict.specs.Lent.{filled}
use Rattle.verdict.specs.Numbers.{of_check_medium, of_load_medium, from_c}
use Rattle.document.specs.Medium.{all_payments}
use Rattle.diskette.specs.Medium.{medium_answer, MediumOutcome, medium_outcome}
use Rattle.diskette.proofs.MediumPromises as form
use Rattle.medium.specs.Checking.{medium_checked_of}
use Rattle.loader.specs.Columns.{bank_codes, accounts, cents}
use Rattle.loader.specs.Medium.{medium_starts, file_starts, file_counts, file_accounts, file_bank_codes, file_cents, if_medium_room, medium_loading}
use Rattle.loader.proofs.MediumLoadLaws.{MediumFilled, MediumSays}
use Rattle.loader.proofs.MediumPromises.{loading_number}
use Rattle.dtaus.specs.Figures.{medium_figures, told}
use Rattle.dtaus.specs.Calls.{checking_medium, loading_medium, files_with}
use Rattle.dtaus.proofs.Numbers.{beneath}
use Rattle.dtaus.proofs.MediumLaws.{SaysMedium, SaysMediumLoaded, of_columns, check_medium_short, load_medium_short}
use Rattle.dtaus.proofs.Promises.{Begins, begins}

-- ---- one answer

pub one_medium : (o : MediumOutcome) (result : List ℕ) (r s : ℕ) (a b : List ℕ) → SaysMedium o result r a → SaysMedium o result s b → (r ≡ s) × (a ≡ b)
one_medium o result r s a b x y = (x.0 ∙ sym y.0, x.1 ∙ sym y.1)

module _ (medium c4 c5 c12 start begin count sum5 sum4 sum12 result : List ℕ) where
  pub one_medium_loaded : (r s : ℕ) (a₁ a₂ a₃ a₄ a₅ a₆ a₇ a₈ a₉ a b₁ b₂ b₃ b₄ b₅ b₆ b₇ b₈ b₉ b : List ℕ)
      → SaysMediumLoaded medium c4 c5 c12 start begin count sum5 sum4 sum12 result r a₁ a₂ a₃ a₄ a₅ a₆ a₇ a₈ a₉ a → SaysMediumLoaded medium c4 c5 c12 start begin count sum5 sum4 sum12 result s b₁ b₂ b₃ b₄ b₅ b₆ b₇ b₈ b₉ b
      → (r ≡ s) × (a₁ ≡ b₁) × (a₂ ≡ b₂) × (a₃ ≡ b₃) × (a₄ ≡ b₄) × (a₅ ≡ b₅) × (a₆ ≡ b₆) × (a₇ ≡ b₇) × (a₈ ≡ b₈) × (a₉ ≡ b₉) × (a ≡ b)
  one_medium_loaded r s a₁ a₂ a₃ a₄ a₅ a₆ a₇ a₈ a₉ a b₁ b₂ b₃ b₄ b₅ b₆ b₇ b₈ b₉ b x y =
      let same : r ≡ s = x.0 ∙ sym y.0 in (
        same,
        x.1.0 ∙ ap (λ n. filled (bank_codes (all_payments (files_with n medium))) c4) same ∙ sym y.1.0,
        x.1.1.0 ∙ ap (λ n. filled (accounts (all_payments (files_with n medium))) c5) same ∙ sym y.1.1.0,
        x.1.1.1.0 ∙ ap (λ n. filled (cents (all_payments (files_with n medium))) c12) same ∙ sym y.1.1.1.0,
        x.1.1.1.1.0 ∙ ap (λ n. filled (medium_starts 0 (files_with n medium)) start) same ∙ sym y.1.1.1.1.0,
        x.1.1.1.1.1.0 ∙ ap (λ n. filled (file_starts 0 (files_with n medium)) begin) same ∙ sym y.1.1.1.1.1.0,
        x.1.1.1.1.1.1.0 ∙ ap (λ n. filled (file_counts (files_with n medium)) count) same ∙ sym y.1.1.1.1.1.1.0,
        x.1.1.1.1.1.1.1.0 ∙ ap (λ n. filled (file_accounts (files_with n medium)) sum5) same ∙ sym y.1.1.1.1.1.1.1.0,
        x.1.1.1.1.1.1.1.1.0 ∙ ap (λ n. filled (file_bank_codes (files_with n medium)) sum4) same ∙ sym y.1.1.1.1.1.1.1.1.0,
        x.1.1.1.1.1.1.1.1.1.0 ∙ ap (λ n. filled (file_cents (files_with n medium)) sum12) same ∙ sym y.1.1.1.1.1.1.1.1.1.0,
        x.1.1.1.1.1.1.1.1.1.1 ∙ sym y.1.1.1.1.1.1.1.1.1.1,
      )

-- ---- numbers: 16, or a number of the call beneath

medium_number : (ns : List ℕ) → T (every (one_of (0 ∷ from_c ns)) (0 ∷ ns)) → (b : Bool) (o : MediumOutcome) → T (one_of (0 ∷ ns) o.verdict.number)
    → T (one_of (0 ∷ from_c ns) (if_medium_room b o).verdict.number)
medium_number ns all true o h = beneath ns all o.verdict.number h
medium_number ns all false o h = tt

-- ---- a check

module _ (result : List ℕ) (r : ℕ) (new : List ℕ) (medium : List ℕ) (says : SaysMedium (checking_medium result medium) result r new) where
  pub check_medium_number : T (one_of (0 ∷ from_c of_check_medium) r)
  unfolding checking_medium
  check_medium_number =
      subst (λ n. T (one_of (0 ∷ from_c of_check_medium) n)) (sym says.0)
      (medium_number of_check_medium tt (leb 4 (length result)) (medium_outcome (medium_answer medium)) (form.number_listed medium))

  -- a result without room is as it was, and 16 is returned
  pub check_medium_no_room : length result < 4 → (r ≡ 16) × (new ≡ result)
  check_medium_no_room h = one_medium _ result r 16 new result says (check_medium_short result medium h)

  -- a result with room gets the figures of the answer to the medium
  pub check_medium_is : 4 ≤ length result → let o = medium_outcome (medium_answer medium) in (r ≡ o.verdict.number) × Begins (medium_figures o) result new
  unfolding checking_medium
  check_medium_is h =
      let e = ap (λ b. if_medium_room b (medium_outcome (medium_answer medium))) (le-leb 4 (length result) h) in
      (says.0 ∙ ap (λ (o : MediumOutcome). o.verdict.number) e, begins _ result h (says.1 ∙ ap (λ o. told (medium_figures o) result) e))

-- ---- a load

module _ (result : List ℕ) (r : ℕ) (new medium c4 c5 c12 start begin count sum5 sum4 sum12 c4' c5' c12' start' begin' count' sum5' sum4' sum12' : List ℕ)
    (says : SaysMediumLoaded medium c4 c5 c12 start begin count sum5 sum4 sum12 result r c4' c5' c12' start' begin' count' sum5' sum4' sum12' new) where
  abbrev columns : List (List ℕ)
  columns = c4 ∷ c5 ∷ c12 ∷ start ∷ []

  abbrev table : List (List ℕ)
  table = begin ∷ count ∷ sum5 ∷ sum4 ∷ sum12 ∷ []

  pub load_medium_number : T (one_of (0 ∷ from_c of_load_medium) r)
  unfolding loading_medium
  load_medium_number =
      subst (λ n. T (one_of (0 ∷ from_c of_load_medium) n)) (sym says.0)
      (medium_number of_load_medium tt (leb 4 (length result)) (medium_loading columns table (medium_answer medium)) (loading_number columns table medium))

  -- a refused call leaves every column as it was, those of the table too
  pub refused_medium_columns : r ≢ 0
      → (c4' ≡ c4) × ((c5' ≡ c5) × ((c12' ≡ c12) × ((start' ≡ start) × ((begin' ≡ begin) × ((count' ≡ count) × ((sum5' ≡ sum5) × ((sum4' ≡ sum4) × (sum12' ≡ sum12))))))))
  refused_medium_columns n =
      let none : files_with r medium ≡ [] = rw (ne_eqb r 0 n) in
      subst (λ ds. MediumFilled ds c4 c5 c12 start begin count sum5 sum4 sum12 c4' c5' c12' start' begin' count' sum5' sum4' sum12') none (of_columns medium c4 c5 c12 start begin count sum5 sum4 sum12 result says)

  pub load_medium_no_room : length result < 4
      → (r ≡ 16) × (c4' ≡ c4) × (c5' ≡ c5) × (c12' ≡ c12) × (start' ≡ start) × (begin' ≡ begin) × (count' ≡ count) × (sum5' ≡ sum5) × (sum4' ≡ sum4)
      × (sum12' ≡ sum12) × (new ≡ result)
  load_medium_no_room h =
      one_medium_loaded medium c4 c5 c12 start begin count sum5 sum4 sum12 result r 16 c4' c5' c12' start' begin' count' sum5' sum4' sum12' new c4 c5 c12 start begin count sum5 sum4 sum12 result says
      (load_medium_short result medium c4 c5 c12 start begin count sum5 sum4 sum12 h)

  -- the statement is that of `loader::load_medium`
  pub load_medium_is : 4 ≤ length result → let o = medium_loading columns table (medium_answer medium) in
      MediumSays medium c4 c5 c12 start begin count sum5 sum4 sum12 (medium_checked_of o) c4' c5' c12' start' begin' count' sum5' sum4' sum12' × ((r ≡ o.verdict.number) × Begins (medium_figures o) result new)
  unfolding loading_medium
  load_medium_is h =
      let o = medium_loading columns table (medium_answer medium) in
      let e = ap (λ b. if_medium_room b o) (le-leb 4 (length result) h) in
      let n : r ≡ o.verdict.number = says.0 ∙ ap (λ (x : MediumOutcome). x.verdict.number) e in (
        (refl, subst (λ m. MediumFilled (files_with m medium) c4 c5 c12 start begin count sum5 sum4 sum12 c4' c5' c12' start' begin' count' sum5' sum4' sum12') n (of_columns medium c4 c5 c12 start begin count sum5 sum4 sum12 result says)),
        (n, begins _ result h (says.1.1.1.1.1.1.1.1.1.1 ∙ ap (λ x. told (medium_figures x) result) e)),
      )
