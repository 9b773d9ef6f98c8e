-- What the statement of `check_medium` comes to: its answer meets demands 1 and 3 over media, and its figures are the numbers of files and payments.
-- The statement is one equation with the outcome of the answer, so each theorem of media (`diskette.proofs.MediumPromises`) is carried over it.
use Prim.Native.Nat.{ℕ}
use mathlib.Core.Path.{◌≡◌, sym, ap, subst, ◌∙◌}
use mathlib.Core.Logic.{◌↔◌}
use mathlib.Core.List.{List, ◌∷◌}
use lib.ListN.{length}
use lib.Dec.{T}
use Rattle.form.specs.Kind.{one_of}
use Rattle.form.specs.Reader.{accepted}
use Rattle.verdict.specs.declared.Verdict.{Verdict}
use Rattle.verdict.specs.Numbers.{of_check_medium}
use Rattle.document.specs.Medium.{all_payments}
use Rattle.diskette.specs.Medium.{AcceptableMedium, medium_answer, medium_outcome}
use Rattle.diskette.proofs.MediumPromises.{RefusedMedium, zero_exactly, else_refused, figures_are, no_figures}
use Rattle.diskette.proofs.MediumPromises as form
use Rattle.medium.specs.declared.MediumChecked.{MediumChecked}
use Rattle.medium.specs.Checking.{medium_checked_of}

-- what `check_medium` ensures of its result for the medium f
abbrev Says : List ℕ → MediumChecked → Type 0
Says f r = r ≡ medium_checked_of (medium_outcome (medium_answer f))

module _ (f : List ℕ) (r : MediumChecked) (says : Says f r) where
  verdict_is : r.verdict ≡ (medium_outcome (medium_answer f)).verdict
  verdict_is = ap (λ (x : MediumChecked). x.verdict) says

  number_is : r.verdict.number ≡ (medium_outcome (medium_answer f)).verdict.number
  number_is = ap (λ (v : Verdict). v.number) verdict_is

  -- the number is 0 or one of those of a check of a medium, of which 15 is none
  pub number_listed : T (one_of (0 ∷ of_check_medium) r.verdict.number)
  number_listed = subst (λ n. T (one_of (0 ∷ of_check_medium) n)) (sym number_is) (form.number_listed f)

  -- the number is 0 exactly for acceptable media
  pub accepts_exactly : (r.verdict.number ≡ 0) ↔ AcceptableMedium f
  accepts_exactly = let z = zero_exactly f in (λ e. z.0 (sym number_is ∙ e), λ x. number_is ∙ z.1 x)

  -- for an acceptable medium the place is 0, and the figures are the number of its files and that of all their payments
  pub accepted_figures : (x : AcceptableMedium f) → (r.verdict.place ≡ 0) × (r.files ≡ length x.0) × (r.payments ≡ length (all_payments x.0))
  unfolding medium_outcome
  accepted_figures x =
      let e : r ≡ medium_checked_of (medium_outcome (accepted x.0)) = says ∙ ap medium_checked_of (figures_are f x) in (
        ap (λ (y : MediumChecked). y.verdict.place) e,
        ap (λ (y : MediumChecked). y.files) e,
        ap (λ (y : MediumChecked). y.payments) e,
      )

  -- a medium that is not acceptable is refused, with the number and the place of the field that is wrong
  pub refused_medium : ¬ AcceptableMedium f → RefusedMedium f r.verdict
  refused_medium n = subst (RefusedMedium f) (sym verdict_is) (else_refused f n)

  -- a medium that is not acceptable has no figures
  pub refused_figures : ¬ AcceptableMedium f → (r.files ≡ 0) × (r.payments ≡ 0)
  refused_figures n =
      let e = no_figures f n in
      (ap (λ (y : MediumChecked). y.files) says ∙ e.0, ap (λ (y : MediumChecked). y.payments) says ∙ e.1)
