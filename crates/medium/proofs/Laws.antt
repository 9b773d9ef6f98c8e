-- The loop over the files of a medium: what it keeps, how it goes on, and how it ends.
-- What is owed is the outcome of the whole medium. Before each file it is that of the files still to come, with the files and payments read so
-- far added (`counted`). A file takes more bytes than it has payments, and one at least (`file_takes`): so the loop ends, and no count overflows.
use Prim.Native.Nat.{ℕ, zero, suc, ◌+◌, ◌*◌, ◌≤◌, ◌<◌}
use native.Mathlib.Omega.{arith}
use mathlib.Core.Path.{◌≡◌, refl, sym, ap, ◌∙◌}
use mathlib.Core.List.{List, [], ◌∷◌}
use Rattle.std.specs.Prelude.{Ok, Err}
use lib.ListN.{length, length-append}
use Rattle.form.specs.Reader.{Answer, accepted, refused}
use Rattle.form.specs.Place.{read_at}
use Rattle.form.specs.Files.{and_those, files_at, run_files}
use Rattle.form.proofs.PlaceLaws.{read_inside}
use Rattle.form.proofs.RulesLaws.{read_legal}
use Rattle.form.proofs.FilesLaws.{lies_between, files_end, files_more, files_halt}
use Rattle.verdict.specs.Verdicts.{accepting}
use Rattle.document.specs.Values.{Document}
use Rattle.document.specs.Rules.{Legal}
use Rattle.document.specs.Medium.{all_payments}
use Rattle.diskette.specs.Writing.{write}
use Rattle.diskette.specs.Fields.{Name, document}
use Rattle.diskette.specs.Medium.{medium_answer, MediumOutcome, medium_outcome}
use Rattle.diskette.proofs.FileSays.{document_says}
use Rattle.diskette.proofs.LayoutLaws.{file_takes}
use Rattle.diskette.proofs.MediumPromises.{takes_a_byte}
use Rattle.fields.specs.declared.Refusal.{Refusal}
use Rattle.fields.specs.Answers.{Reading}
use Rattle.fields.proofs.WalkLaws.{halts}
use Rattle.checker.specs.declared.FileRead.{FileRead}
use Rattle.checker.specs.Checking.{files}
use Rattle.checker.proofs.Laws.{owed}
use Rattle.checker.proofs.CheckLaws.{was_read}
use Rattle.medium.specs.declared.MediumChecked.{MediumChecked}
use Rattle.medium.specs.Checking.{medium_checked_of, refused_with}

-- ---- files and payments read so far, and the answer to what follows

abbrev pub counted : ℕ → ℕ → Answer Name (List Document) → MediumOutcome
counted files payments (accepted ds) = record { verdict = accepting; files = files + length ds; payments = payments + length (all_payments ds) }
counted files payments (refused r) = medium_outcome (refused r)

figures : {a b c d : ℕ} → a ≡ b → c ≡ d → ◌≡◌ {A = MediumOutcome} (record { verdict = accepting; files = a; payments = c }) (record { verdict = accepting; files = b; payments = d })
figures x y i = record { verdict = accepting; files = x i; payments = y i }

counted_none : (x : Answer Name (List Document)) → medium_outcome x ≡ counted 0 0 x
unfolding medium_outcome
counted_none (accepted ds) = figures (omega arith) (omega arith)
counted_none (refused r) = refl

counted_more : (n m : ℕ) (d : Document) (x : Answer Name (List Document)) → counted n m (and_those d x) ≡ counted (n + 1) (m + length d.payments) x
counted_more n m d (accepted ds) = figures (omega arith) (omega (arith, length-append d.payments (all_payments ds)))
counted_more n m d (refused r) = refl

-- ---- the loop

-- so many files and payments were read, and the next file begins at p
pub record Going (f : List ℕ) (n m p : ℕ) : Type 0 where
  pub inside : p ≤ length f
  pub more : ℕ
  pub enough : length f ≤ p + more
  pub few_files : n ≤ p
  pub few_payments : m ≤ p
  pub rest : medium_outcome (medium_answer f) ≡ counted n m (files_at more document f p)

pub going_first : (f : List ℕ) → Going f 0 0 0
unfolding medium_answer run_files
going_first f =
    record {
      inside = omega arith;
      more = length f;
      enough = omega arith;
      few_files = omega arith;
      few_payments = omega arith;
      rest = counted_none (files_at (length f) document f 0);
    }

module _ {f : List ℕ} {n m p : ℕ} (g : Going f n m p) {a : Reading FileRead} (told : a ≡ owed f p) where
  -- the file at p is refused
  pub going_refused : {r : Refusal} → a ≡ Err r → refused_with r ≡ medium_checked_of (medium_outcome (medium_answer f))
  unfolding medium_outcome
  going_refused given =
      let h = halts files (read_at document f p) told given in
      ap refused_with h.2
      ∙ ap medium_checked_of (sym (g.rest ∙ ap (counted n m) (files_halt document takes_a_byte Legal write document_says g.more f p h.0 h.1)))

  module _ {file : FileRead} (given : a ≡ Ok file) where
    -- a file of so many payments lies between p and file.end
    pub file_between : (p + (256 + 256 * file.count) ≤ file.end) × (file.end ≤ length f)
    file_between =
        let x = was_read f p told given in
        let l = read_legal document Legal write document_says f p file.end x.0 x.1 in
        let i = (read_inside document f p file.end x.0 g.inside x.1).1 in
        let w = lies_between f (write x.0) p file.end g.inside i l.1 in
        (omega (arith, file_takes x.0 l.0, x.2), i)

    -- it is the last
    pub going_ends : length f ≤ file.end
        → ◌≡◌ {A = MediumChecked} (record { verdict = accepting; files = n + 1; payments = m + file.count }) (medium_checked_of (medium_outcome (medium_answer f)))
    going_ends h =
        let x = was_read f p told given in
        let e : m + file.count ≡ m + length (all_payments (x.0 ∷ [])) = omega (arith, x.2, length-append x.0.payments []) in
        ap medium_checked_of
        (figures refl e ∙ sym (g.rest ∙ ap (counted n m) (files_end document takes_a_byte Legal write document_says g.more f p file.end x.0 x.1 h)))

    -- another follows
    pub going_more : file.end < length f → Going f (n + 1) (m + file.count) file.end
    going_more h = by g.more g.enough g.rest
      where
        by : (more : ℕ) → length f ≤ p + more → medium_outcome (medium_answer f) ≡ counted n m (files_at more document f p) → Going f (n + 1) (m + file.count) file.end
        by zero l o = absurd (omega (arith, file_between.0))
        by (suc more) l o =
            let x = was_read f p told given in
            let b = file_between in
            record {
              inside = b.1;
              more = more;
              enough = omega (arith, b.0);
              few_files = omega (arith, b.0, g.few_files);
              few_payments = omega (arith, b.0, g.few_payments);
              rest = o ∙ ap (counted n m) (files_more document takes_a_byte Legal write document_says more f p file.end x.0 x.1 h)
                  ∙ counted_more n m x.0 (files_at more document f file.end) ∙ ap (λ k. counted (n + 1) (m + k) (files_at more document f file.end)) (sym x.2);
            }
