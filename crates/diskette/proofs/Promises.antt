-- What is proved of the diskette form, demand by demand: a file is accepted exactly when it is a legal document written out, only one such
-- reading exists, a refusal names the right place; every file gets one answer; count and totals are those of the one reading's payments.
-- All rests on two facts of the form: what it says are the legal documents, written out (`document_says`), and every field that can be come to
-- has a content (`document_viable`). With these the laws of all such forms (`RulesLaws`) give demand 3. What is said of number, place and totals
-- then goes by the two cases of an answer.
use Prim.Native.Nat.{ℕ, ◌+◌}
use mathlib.Core.Path.{◌≡◌, refl, sym, ap, subst, ◌∙◌}
use mathlib.Core.Logic.{◌↔◌, ◌≢◌}
use mathlib.Core.List.{List, ◌∷◌}
use lib.ListN.{length, take}
use lib.Dec.{T, eqb}
use Rattle.form.specs.Kind.{one_of}
use Rattle.form.specs.Reader.{Refusal, Answer, accepted, refused}
use Rattle.form.proofs.BoolLaws.{or_right}
use Rattle.form.proofs.ReaderLaws.{place_inside}
use Rattle.form.proofs.RulesLaws.{accepted_legal, legal_accepted, only_one, ahead_legal, through_none}
use Rattle.verdict.specs.Verdicts.{number_of, refused_as}
use Rattle.verdict.specs.Numbers.{of_file}
use Rattle.document.specs.Values.{Document, no_totals, totals}
use Rattle.document.specs.Rules.{Legal}
use Rattle.diskette.specs.Writing.{write, Acceptable, Begin}
use Rattle.diskette.specs.Fields.{Name, document}
use Rattle.diskette.specs.Answer.{answer, payments_of, outcome}
pub use Rattle.diskette.proofs.Refused.{RefusedFile}
use Rattle.diskette.proofs.FileSays.{document_says}
use Rattle.diskette.proofs.Viability.{document_viable}
use Rattle.diskette.proofs.Numbers.{file_number}

-- ---- demand 3

pub accepted_exactly : (f : List ℕ) → ((d : Document) × (answer f ≡ accepted d)) ↔ Acceptable f
unfolding answer
accepted_exactly f = (
  λ x. let l = accepted_legal document Legal write document_says f x.0 x.1 in (x.0, l.0, l.1),
  λ x. (x.0, legal_accepted document Legal write document_says f x.0 x.1 x.2),
)

-- what is accepted is what the file says
pub accepted_reading : (f : List ℕ) (x : Acceptable f) → answer f ≡ accepted x.0
unfolding answer
accepted_reading f x = legal_accepted document Legal write document_says f x.0 x.1 x.2

pub one_reading : (f : List ℕ) (x y : Acceptable f) → x.0 ≡ y.0
one_reading f x y = only_one document Legal write document_says x.0 y.0 x.1 y.1 (x.2 ∙ sym y.2)

-- the bytes ahead of the named field begin some acceptable file
pub ahead_begins : (f : List ℕ) (r : Refusal Name) → answer f ≡ refused r → Begin (take r.place f)
unfolding answer
ahead_begins f r e = let b = ahead_legal document Legal write document_says document_viable f r e in (b.0, (b.1, b.2, b.3))

-- the bytes through the named field begin no acceptable file, unless the file stops before that field is whole
pub through_begins_none : (f : List ℕ) (r : Refusal Name) → answer f ≡ refused r → number_of r.reason ≢ 1 → ¬ Begin (take (r.place + r.width) f)
unfolding answer number_of
through_begins_none f r e n b =
    through_none document Legal write document_says f r (λ s. n (ap number_of s)) e b.0 b.1.0 b.1.1 b.1.2

-- ---- demands 1 and 3: 0 exactly where the file is acceptable, and else the number and the place of the field that is wrong

refused_file : (f : List ℕ) (r : Refusal Name) → answer f ≡ refused r → RefusedFile f (refused_as r)
unfolding answer
refused_file f r e =
    record {
      refusal = r;
      answered = e;
      verdict = refl;
      number = file_number f r e;
      inside = place_inside document f r e;
      ahead = ahead_begins f r e;
      through = through_begins_none f r e;
    }

pub zero_exactly : (f : List ℕ) → ((outcome (answer f)).verdict.number ≡ 0) ↔ Acceptable f
unfolding outcome
zero_exactly f = (λ e. by (answer f) refl e, λ x. rw (accepted_reading f x))
  where
    by : (a : Answer Name Document) → answer f ≡ a → (outcome a).verdict.number ≡ 0 → Acceptable f
    by (accepted d) i e = (accepted_exactly f).0 (d, i)
    by (refused r) i e = absurd (subst (λ n. T (one_of of_file n)) e (refused_file f r i).number)

pub accepted_place : (f : List ℕ) → Acceptable f → (outcome (answer f)).verdict.place ≡ 0
unfolding outcome
accepted_place f x = rw (accepted_reading f x)

pub else_refused : (f : List ℕ) → ¬ Acceptable f → RefusedFile f (outcome (answer f)).verdict
unfolding outcome
else_refused f n = by (answer f) refl
  where
    by : (a : Answer Name Document) → answer f ≡ a → RefusedFile f (outcome a).verdict
    by (accepted d) i = absurd (n ((accepted_exactly f).0 (d, i)))
    by (refused r) i = refused_file f r i

-- the number is 0 or one of those of a file
pub number_listed : (f : List ℕ) → T (one_of (0 ∷ of_file) (outcome (answer f)).verdict.number)
unfolding outcome
number_listed f = by (answer f) refl
  where
    by : (a : Answer Name Document) → answer f ≡ a → T (one_of (0 ∷ of_file) (outcome a).verdict.number)
    by (accepted d) i = tt
    by (refused r) i = let n = number_of r.reason in or_right (eqb n 0) (one_of of_file n) (refused_file f r i).number

-- ---- demand 2, for the figures

pub totals_are : (f : List ℕ) (x : Acceptable f) → (outcome (answer f)).totals ≡ totals x.0.payments
unfolding outcome
totals_are f x = rw (accepted_reading f x)

-- a file that is not acceptable has no figures
pub no_totals_lem : (f : List ℕ) → ¬ Acceptable f → (outcome (answer f)).totals ≡ no_totals
unfolding outcome
no_totals_lem f n = by (answer f) refl
  where
    by : (a : Answer Name Document) → answer f ≡ a → (outcome a).totals ≡ no_totals
    by (accepted d) i = absurd (n ((accepted_exactly f).0 (d, i)))
    by (refused r) i = refl

-- the count is the number of the answer's payments
pub payments_counted : (a : Answer Name Document) → (outcome a).totals.count ≡ length (payments_of a)
unfolding outcome payments_of
payments_counted (accepted d) = refl
payments_counted (refused r) = refl
