-- What was read of one file tells the answer to the whole: the refusal, or its figures where nothing follows.
use Prim.Native.Nat.{ℕ}
use mathlib.Core.Path.{◌≡◌, sym, ap, ◌∙◌}
use mathlib.Core.Bool.{true, false}
use mathlib.Core.List.{List}
use Rattle.std.specs.Prelude.{Ok, Err}
use lib.ListN.{length}
use lib.Dec.{leb}
use Rattle.form.specs.Place.{Read, done, read_at, over}
use Rattle.form.proofs.PlaceLaws.{run_read}
use Rattle.document.specs.Values.{Document, totals}
use Rattle.diskette.specs.Fields.{Name, document}
use Rattle.verdict.specs.Verdicts.{number_of, accepting}
use Rattle.diskette.specs.Answer.{answer, outcome}
use Rattle.fields.specs.declared.Refusal.{Refusal}
use Rattle.fields.specs.Answers.{Reading, refusal_of}
use Rattle.fields.proofs.WalkLaws.{reads, halts}
use Rattle.sums.specs.declared.Sums.{Sums}
use Rattle.sums.specs.Sums.{sums_of}
use Rattle.checker.specs.declared.Checked.{Checked}
use Rattle.checker.specs.declared.FileRead.{FileRead}
use Rattle.checker.specs.Checking.{checked_of, refused_with, files}
use Rattle.checker.proofs.Laws.{owed}

-- a file that was read is a document's, and the figures are those of its payments
pub was_read : (f : List ℕ) (p : ℕ) {a : Reading FileRead} → a ≡ owed f p → {x : FileRead} → a ≡ Ok x
    → (d : Document) × (read_at document f p ≡ done d x.end) × (x.count ≡ (totals d.payments).count) × (x.sums ≡ sums_of (totals d.payments))
was_read f p told {x} given =
    let r = reads files (read_at document f p) told given in (
      r.value,
      r.done ∙ ap (done r.value) (sym (ap (λ (y : FileRead). y.end) r.given)),
      ap (λ (y : FileRead). y.count) r.given,
      ap (λ (y : FileRead). y.sums) r.given,
    )

-- the answer to a file, by what was read of it
answer_read : (f : List ℕ) (x : Read Name Document) → read_at document f 0 ≡ x → answer f ≡ over x (length f)
unfolding answer
answer_read f x e = run_read document f ∙ ap (λ y. over y (length f)) e

module _ (f : List ℕ) {a : Reading FileRead} (told : a ≡ owed f 0) where
  pub check_refused : {r : Refusal} → a ≡ Err r → refused_with r ≡ checked_of (outcome (answer f))
  unfolding outcome
  check_refused given =
      let h = halts files (read_at document f 0) told given in
      ap refused_with h.2 ∙ ap (λ y. checked_of (outcome y)) (sym (answer_read f _ h.1))

  module _ {x : FileRead} (given : a ≡ Ok x) where
    pub check_late : leb (length f) x.end ≡ false → refused_with (refusal_of 15 x.end) ≡ checked_of (outcome (answer f))
    unfolding outcome number_of
    check_late e = let d = was_read f 0 told given in rw (answer_read f _ d.1, e)

    pub check_over : leb (length f) x.end ≡ true
        → ◌≡◌ {A = Checked} (record { verdict = accepting; count = x.count; sums = x.sums }) (checked_of (outcome (answer f)))
    unfolding outcome
    check_over e = let d = was_read f 0 told given in figures d.2 d.3 ∙ rw (answer_read f _ d.1, e)
      where
        figures : {n m : ℕ} {t u : Sums} → n ≡ m → t ≡ u → ◌≡◌ {A = Checked} (record { verdict = accepting; count = n; sums = t }) (record { verdict = accepting; count = m; sums = u })
        figures x y i = record { verdict = accepting; count = x i; sums = y i }
