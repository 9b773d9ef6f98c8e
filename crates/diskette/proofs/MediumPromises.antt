-- What is proved of a medium, demand by demand: it is accepted exactly when it is a sequence of legal documents written out, cut in one way only,
-- a refusal names the right place, and every medium gets one answer.
-- The laws of forms end to end (`FilesLaws`) are those of a medium, since A1 has a byte (`takes_a_byte`). A refused medium is one whose files before
-- the refused one were read whole, so that its number is one that a file's fields give: never that of bytes behind E.
use Prim.Native.Nat.{ℕ, ◌+◌, ◌*◌, ◌≤◌, ◌<◌}
use native.Mathlib.Omega.{arith}
use mathlib.Core.Path.{◌≡◌, refl, sym, ap, subst, ◌∙◌}
use mathlib.Core.Logic.{◌↔◌, ◌≢◌}
use mathlib.Core.List.{List, [], ◌∷◌, ◌++◌, append-nil}
use lib.ListN.{length, take, drop, length-append, length-drop}
use lib.Dec.{T, eqb}
use Rattle.form.specs.Kind.{one_of}
use Rattle.form.specs.Form.{◌>>=◌}
use Rattle.form.specs.Reader.{Refusal, Answer, accepted, refused, run}
use Rattle.form.specs.Place.{read_at}
use Rattle.form.proofs.BoolLaws.{or_right}
use Rattle.form.proofs.ReaderLaws.{behind, place_inside}
use Rattle.form.proofs.PlaceLaws.{run_place}
use Rattle.form.proofs.ReachLaws.{reach, first_grows}
use Rattle.form.proofs.FilesLaws.{all_append, write_append, RefusedBehind, accepted_files, files_accepted, one_cut, refused_behind, whole_ahead, ahead_files, through_files}
use Rattle.verdict.specs.declared.Verdict.{Verdict}
use Rattle.verdict.specs.Verdicts.{number_of, refused_as}
use Rattle.verdict.specs.Numbers.{of_medium}
use Rattle.document.specs.Values.{Document}
use Rattle.document.specs.Rules.{All, Legal}
use Rattle.document.specs.Medium.{all_payments}
use Rattle.diskette.specs.Writing.{write, Acceptable}
use Rattle.diskette.specs.Fields.{Name, header, behind_header, document}
use Rattle.diskette.specs.Medium.{write_medium, AcceptableMedium, BeginMedium, medium_answer, files_of, medium_outcome}
use Rattle.diskette.proofs.FileSays.{document_says}
use Rattle.diskette.proofs.LayoutLaws.{medium_takes}
use Rattle.diskette.proofs.Viability.{document_viable}
use Rattle.diskette.proofs.Numbers.{halt_number}

-- a file takes a byte at least
pub takes_a_byte : (f : List ℕ) (p : ℕ) → p < reach (read_at document f p)
unfolding document
takes_a_byte f p = first_grows (header >>= behind_header) f p (omega arith)

-- ---- demand 3

pub accepted_exactly : (f : List ℕ) → ((ds : List Document) × (medium_answer f ≡ accepted ds)) ↔ AcceptableMedium f
unfolding medium_answer
accepted_exactly f = (
  λ x. let l = accepted_files document takes_a_byte Legal write document_says f x.0 x.1 in (x.0, l.0, l.1),
  λ x. (x.0, files_accepted document takes_a_byte Legal write document_says f x.0 x.1 x.2),
)

-- what is accepted is what the medium says
pub accepted_reading : (f : List ℕ) (x : AcceptableMedium f) → medium_answer f ≡ accepted x.0
unfolding medium_answer
accepted_reading f x = files_accepted document takes_a_byte Legal write document_says f x.0 x.1 x.2

-- a medium is cut into files in one way only, and each file has one reading
pub one_reading : (f : List ℕ) (x y : AcceptableMedium f) → x.0 ≡ y.0
one_reading f x y = one_cut document takes_a_byte Legal write document_says x.0 y.0 x.1 y.1 (x.2 ∙ sym y.2)

-- a file is a medium of one
pub file_is_medium : (f : List ℕ) → Acceptable f → AcceptableMedium f
file_is_medium f x = (x.0 ∷ [], record { some = omega arith; each = (x.1, tt) }, append-nil (write x.0) ∙ x.2)

-- media end to end are a medium, whatever they come to together: no limit runs on over the files
pub media_joined : (f g : List ℕ) → AcceptableMedium f → AcceptableMedium g → AcceptableMedium (f ++ g)
media_joined f g x y = (
  x.0 ++ y.0,
  record {
    some = omega (arith, x.1.some, length-append x.0 y.0);
    each = all_append Legal x.0 y.0 x.1.each y.1.each;
  },
  write_append write x.0 y.0 ∙ ap (λ bs. bs ++ write_medium y.0) x.2 ∙ ap (λ bs. f ++ bs) y.2,
)

-- files that were read whole, and the place of the refused file behind them
abbrev pub RefusedIn : List ℕ → Refusal Name → Type 0
RefusedIn f r = RefusedBehind document takes_a_byte Legal write document_says f 0 r

pub refused_in : (f : List ℕ) (r : Refusal Name) → medium_answer f ≡ refused r → RefusedIn f r
unfolding medium_answer
refused_in f r e = refused_behind document takes_a_byte Legal write document_says f r e

-- the bytes ahead of the refused file are the files before it, written out
pub files_before : (f : List ℕ) (r : Refusal Name) (b : RefusedIn f r) → take b.begins f ≡ write_medium b.whole
files_before f r b = whole_ahead document takes_a_byte Legal write document_says f r b

-- the bytes ahead of the named field begin some acceptable medium
pub ahead_begins : (f : List ℕ) (r : Refusal Name) → medium_answer f ≡ refused r → BeginMedium (take r.place f)
ahead_begins f r e =
    let b = ahead_files document takes_a_byte Legal write document_says f r (refused_in f r e) document_viable in
    (b.0, (b.1, b.2, b.3))

-- the bytes through the named field begin none, unless the medium stops before that field is whole
pub through_begins_none : (f : List ℕ) (r : Refusal Name) → medium_answer f ≡ refused r → number_of r.reason ≢ 1
    → ¬ BeginMedium (take (r.place + r.width) f)
unfolding number_of
through_begins_none f r e n b =
    through_files document takes_a_byte Legal write document_says f r (refused_in f r e) (λ s. n (ap number_of s)) b.0 b.1.0 b.1.1 b.1.2

-- ---- demands 1 and 3: 0 exactly where the medium is acceptable, and else the number and the place of the field that is wrong

-- What a medium that is not acceptable is given, whichever call looks at it: as `RefusedFile` of a file, over media. 15 is none of the numbers.
pub record RefusedMedium (f : List ℕ) (v : Verdict) : Type 0 where
  pub refusal : Refusal Name
  pub answered : medium_answer f ≡ refused refusal
  pub verdict : v ≡ refused_as refusal
  pub number : T (one_of of_medium v.number)
  pub inside : v.place ≤ length f
  pub ahead : BeginMedium (take v.place f)
  pub through : v.number ≢ 1 → ¬ BeginMedium (take (v.place + refusal.width) f)

inside_medium : (f : List ℕ) (r : Refusal Name) → RefusedIn f r → r.place ≤ length f
inside_medium f r b =
    let k = behind b.begins (run document (drop b.begins f)) r (run_place document f b.begins b.inside ∙ rw b.halts) in
    let i = place_inside document (drop b.begins f) k.there k.given in
    omega (arith, k.place, length-drop b.begins f, b.inside)

refused_medium : (f : List ℕ) (r : Refusal Name) → medium_answer f ≡ refused r → RefusedMedium f (refused_as r)
refused_medium f r e =
    let b = refused_in f r e in
    record {
      refusal = r;
      answered = e;
      verdict = refl;
      number = halt_number f b.begins r b.halts;
      inside = inside_medium f r b;
      ahead = ahead_begins f r e;
      through = through_begins_none f r e;
    }

pub zero_exactly : (f : List ℕ) → ((medium_outcome (medium_answer f)).verdict.number ≡ 0) ↔ AcceptableMedium f
unfolding medium_outcome
zero_exactly f = (λ e. by (medium_answer f) refl e, λ x. rw (accepted_reading f x))
  where
    by : (a : Answer Name (List Document)) → medium_answer f ≡ a → (medium_outcome a).verdict.number ≡ 0 → AcceptableMedium f
    by (accepted ds) i e = (accepted_exactly f).0 (ds, i)
    by (refused r) i e = absurd (subst (λ n. T (one_of of_medium n)) e (refused_medium f r i).number)

pub else_refused : (f : List ℕ) → ¬ AcceptableMedium f → RefusedMedium f (medium_outcome (medium_answer f)).verdict
unfolding medium_outcome
else_refused f n = by (medium_answer f) refl
  where
    by : (a : Answer Name (List Document)) → medium_answer f ≡ a → RefusedMedium f (medium_outcome a).verdict
    by (accepted ds) i = absurd (n ((accepted_exactly f).0 (ds, i)))
    by (refused r) i = refused_medium f r i

-- the number is 0 or one of those of a medium: so it is never 15
pub number_listed : (f : List ℕ) → T (one_of (0 ∷ of_medium) (medium_outcome (medium_answer f)).verdict.number)
unfolding medium_outcome
number_listed f = by (medium_answer f) refl
  where
    by : (a : Answer Name (List Document)) → medium_answer f ≡ a → T (one_of (0 ∷ of_medium) (medium_outcome a).verdict.number)
    by (accepted ds) i = tt
    by (refused r) i = let n = number_of r.reason in or_right (eqb n 0) (one_of of_medium n) (refused_medium f r i).number

-- ---- demand 2, for the figures

-- an acceptable medium is answered 0 at 0, with the numbers of its files and of all their payments
pub figures_are : (f : List ℕ) (x : AcceptableMedium f)
    → medium_outcome (medium_answer f) ≡ medium_outcome (accepted x.0)
figures_are f x = ap medium_outcome (accepted_reading f x)

-- a medium that is not acceptable has no figures
pub no_figures : (f : List ℕ) → ¬ AcceptableMedium f → ((medium_outcome (medium_answer f)).files ≡ 0) × ((medium_outcome (medium_answer f)).payments ≡ 0)
unfolding medium_outcome
no_figures f n = by (medium_answer f) refl
  where
    by : (a : Answer Name (List Document)) → medium_answer f ≡ a → ((medium_outcome a).files ≡ 0) × ((medium_outcome a).payments ≡ 0)
    by (accepted ds) i = absurd (n ((accepted_exactly f).0 (ds, i)))
    by (refused r) i = (refl, refl)

-- columns of a payment for each 256 bytes and a table of a file for each 512 are long enough for every medium
pub enough_rows : (f : List ℕ) (x : AcceptableMedium f) → (256 * length (all_payments x.0) < length f) × (512 * length x.0 ≤ length f)
enough_rows f x =
    let t = medium_takes x.0 x.1.each in
    let l = ap length x.2 in
    let s = x.1.some in
    let p = all_paid x.0 x.1.each in
    (omega arith, omega arith)
  where
    -- each file has a payment
    all_paid : (ds : List Document) → All Legal ds → length ds ≤ length (all_payments ds)
    all_paid [] g = omega arith
    all_paid (d ∷ ds) g = omega (arith, g.0.some, all_paid ds g.1, length-append d.payments (all_payments ds))

-- the figures are those of the answer's files
pub files_counted : (a : Answer Name (List Document))
    → ((medium_outcome a).files ≡ length (files_of a)) × ((medium_outcome a).payments ≡ length (all_payments (files_of a)))
unfolding medium_outcome files_of
files_counted (accepted ds) = (refl, refl)
files_counted (refused r) = (refl, refl)
