-- What the statements of `check` and `file_at` come to. The answer of `check` meets the three demands; that of `file_at` tells of a file exactly
-- where a legal document stands, written out.
-- The statement of `check` is one equation with the outcome of the answer, so each theorem of the form (`diskette.proofs.Promises`) is carried
-- over it. That of `file_at` is one with what is read from a place on, which stands there written out, and the other way round (`read_legal`,
-- `legal_read`).
use Prim.Native.Nat.{ℕ, ◌≤◌}
use native.Mathlib.Omega.{arith}
use mathlib.Core.Path.{◌≡◌, sym, ap, subst, ◌∙◌}
use mathlib.Core.Logic.{◌↔◌}
use Rattle.std.specs.Prelude.{Ok}
use mathlib.Core.List.{List, ◌∷◌, ◌++◌}
use lib.ListN.{length, drop, length-append, length-drop}
use lib.Dec.{T}
use Rattle.form.specs.Kind.{one_of}
use Rattle.form.specs.Place.{done, read_at}
use Rattle.form.proofs.PlaceLaws.{read_inside}
use Rattle.form.proofs.RulesLaws.{read_legal, legal_read}
use Rattle.document.specs.Values.{Document, Totals, no_totals, totals}
use Rattle.document.specs.Rules.{Legal}
use Rattle.verdict.specs.declared.Verdict.{Verdict}
use Rattle.verdict.specs.Numbers.{of_check}
use Rattle.diskette.specs.Writing.{write, Acceptable}
use Rattle.diskette.specs.Fields.{document}
use Rattle.diskette.specs.Answer.{answer, outcome}
use Rattle.diskette.proofs.LayoutLaws.{end_length}
use Rattle.diskette.proofs.FileSays.{document_says}
use Rattle.diskette.proofs.Promises.{RefusedFile, zero_exactly, accepted_place, else_refused, totals_are, no_totals_lem}
use Rattle.diskette.proofs.Promises as form
use Rattle.fields.specs.Answers.{Reading, of_read}
use Rattle.sums.specs.declared.Sums.{Sums}
use Rattle.sums.specs.Sums.{sums_of}
use Rattle.checker.specs.declared.Checked.{Checked}
use Rattle.checker.specs.declared.FileRead.{FileRead}
use Rattle.checker.specs.Checking.{checked_of, files}
use Rattle.checker.proofs.CheckLaws.{was_read}

-- what `check` ensures of its result for the file f
abbrev Says : List ℕ → Checked → Type 0
Says f r = r ≡ checked_of (outcome (answer f))

module _ (f : List ℕ) (r : Checked) (says : Says f r) where
  verdict_is : r.verdict ≡ (outcome (answer f)).verdict
  verdict_is = ap (λ (x : Checked). x.verdict) says

  number_is : r.verdict.number ≡ (outcome (answer f)).verdict.number
  number_is = ap (λ (v : Verdict). v.number) verdict_is

  -- the number is 0 or one of those of a check
  pub number_listed : T (one_of (0 ∷ of_check) r.verdict.number)
  number_listed = subst (λ n. T (one_of (0 ∷ of_check) n)) (sym number_is) (form.number_listed f)

  -- the number is 0 exactly for acceptable files
  pub accepts_exactly : (r.verdict.number ≡ 0) ↔ Acceptable f
  accepts_exactly = let z = zero_exactly f in (λ e. z.0 (sym number_is ∙ e), λ x. number_is ∙ z.1 x)

  -- for an acceptable file the place is 0, and count and sums are those of the payments of the one reading
  pub accepted_figures : (x : Acceptable f) → (r.verdict.place ≡ 0) × (r.count ≡ (totals x.0.payments).count) × (r.sums ≡ sums_of (totals x.0.payments))
  accepted_figures x =
      let t = totals_are f x in (
        ap (λ (v : Verdict). v.place) verdict_is ∙ accepted_place f x,
        ap (λ (y : Checked). y.count) says ∙ ap (λ (u : Totals). u.count) t,
        ap (λ (y : Checked). y.sums) says ∙ ap sums_of t,
      )

  -- a file that is not acceptable is refused, with the number and the place of the field that is wrong
  pub refused_file : ¬ Acceptable f → RefusedFile f r.verdict
  refused_file n = subst (RefusedFile f) (sym verdict_is) (else_refused f n)

  -- a file that is not acceptable has no figures
  pub refused_figures : ¬ Acceptable f → (r.count ≡ 0) × (r.sums ≡ sums_of no_totals)
  refused_figures n =
      let t = no_totals_lem f n in
      (ap (λ (y : Checked). y.count) says ∙ ap (λ (u : Totals). u.count) t, ap (λ (y : Checked). y.sums) says ∙ ap sums_of t)

-- ---- one file, wherever it stands

-- what `file_at` ensures of its result for the file f and the place p
abbrev SaysOf : List ℕ → ℕ → Reading FileRead → Type 0
SaysOf f p r = r ≡ of_read files (read_at document f p)

-- so many payments that come to t, and q behind E
abbrev read_as : ℕ → Sums → ℕ → FileRead
read_as n t q = record { count = n; sums = t; end = q }

-- a legal document, written out from p to q
pub record StandsAt (f : List ℕ) (p q : ℕ) (d : Document) : Type 0 where
  pub legal : Legal d
  pub bytes : drop p f ≡ write d ++ drop q f
  pub inside : q ≤ length f

-- what is written out has a byte, so its place is in the file
starts_inside : (f : List ℕ) (p q : ℕ) (d : Document) → drop p f ≡ write d ++ drop q f → p ≤ length f
starts_inside f p q d e = let l = simp (length-drop, length-append) at (ap length e) in let h = end_length (totals d.payments) in omega arith

module _ (f : List ℕ) (p : ℕ) (r : Reading FileRead) (says : SaysOf f p r) where
  -- a document was read from p on, the count and the sums are those of its payments, and its E ends at q
  pub file_read : {n q : ℕ} {t : Sums} → r ≡ Ok (read_as n t q)
      → (d : Document) × (read_at document f p ≡ done d q) × (n ≡ (totals d.payments).count) × (t ≡ sums_of (totals d.payments))
  file_read given = was_read f p says given

  -- count, sums and the place behind E are given exactly where a legal document stands, written out
  pub file_read_exactly : (n q : ℕ) (t : Sums)
      → (r ≡ Ok (read_as n t q)) ↔ ((d : Document) × StandsAt f p q d × (n ≡ (totals d.payments).count) × (t ≡ sums_of (totals d.payments)))
  unfolding of_read
  file_read_exactly n q t = (
    λ given.
        let d = file_read given in
        let l = read_legal document Legal write document_says f p q d.0 d.1 in
        (d.0, record { legal = l.0; bytes = l.1; inside = (read_inside document f p q d.0 (starts_inside f p q d.0 l.1) d.1).1 }, d.2, d.3),
    λ x.
        let e = legal_read document Legal write document_says f p q x.0 (starts_inside f p q x.0 x.1.bytes) x.1.inside x.1.legal x.1.bytes in
        says ∙ rw (e, x.2, x.3),
  )
