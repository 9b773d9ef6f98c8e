-- A listing call, once the check has answered: the file's refusal, no room, or the whole listing.
use Prim.Native.Nat.{ℕ, ◌≤◌}
use mathlib.Core.Path.{◌≡◌, refl, sym, ap, ◌∙◌}
use mathlib.Core.Logic.{◌≢◌, ◌⊎◌, inl, inr, ⊎_elim}
use mathlib.Core.Bool.{Bool, true, false}
use mathlib.Core.List.{List, ◌∷◌}
use lib.ListN.{length}
use lib.Dec.{T, leb}
use borrow.Author.Tests.{leb-true, leb-false}
use Rattle.form.specs.Kind.{one_of}
use Rattle.form.specs.Reader.{Answer, accepted, refused}
use Rattle.form.proofs.NumberLaws.{one_within}
use Rattle.verdict.specs.declared.Verdict.{Verdict}
use Rattle.verdict.specs.Verdicts.{accepting, refusing}
use Rattle.verdict.specs.Lent.{filled}
use Rattle.verdict.specs.Numbers.{of_file, of_list}
use Rattle.document.specs.Values.{Document}
use Rattle.diskette.specs.Writing.{Acceptable}
use Rattle.diskette.specs.Fields.{Name}
use Rattle.diskette.specs.Answer.{answer, outcome}
use Rattle.diskette.proofs.Promises.{accepted_exactly}
use Rattle.diskette.proofs.Promises as form
use Rattle.checker.specs.declared.Checked.{Checked}
use Rattle.checker.specs.Checking.{checked_of}
use Rattle.checker.proofs.Promises.{accepts_exactly}
use Rattle.listing.specs.Endings.{Ending, writes, refuses, listed, written}
use Rattle.output.specs.declared.Written.{Written}
use Rattle.output.specs.Writing.{written_of}
use Rattle.output.proofs.EndingLaws.{Says as EndingSays, RefusedWith, ends_refused, ends_short, ends_written}
use Rattle.lister.proofs.ListingLaws.{listing_of, listed_as}

-- what `list` ensures of its result and of the output, for the file and what the output held before
abbrev pub Says : List ℕ → List ℕ → Written → List ℕ → Type 0
Says file old r new = EndingSays (listed (answer file)) old r new

-- a refusal with the verdict of the check
abbrev RefusedAs : Answer Name Document → Type 0
RefusedAs a = listed a ≡ refuses (outcome a).verdict

-- every file is acceptable or is refused with the verdict of the check
pub acceptable_or_refused : (file : List ℕ) → Acceptable file ⊎ RefusedAs (answer file)
unfolding outcome listed
acceptable_or_refused file = by (answer file) refl
  where
    by : (a : Answer Name Document) → answer file ≡ a → Acceptable file ⊎ RefusedAs a
    by (accepted d) i = inl ((accepted_exactly file).0 (d, i))
    by (refused z) i = inr refl

-- a refused listing has one of the numbers of a listing call
pub listed_number : (file : List ℕ) → RefusedWith (0 ∷ of_list) (listed (answer file))
unfolding outcome listed
listed_number file = by (answer file) (form.number_listed file)
  where
    by : (a : Answer Name Document) → T (one_of (0 ∷ of_file) (outcome a).verdict.number) → RefusedWith (0 ∷ of_list) (listed a)
    by (accepted d) h = tt
    by (refused z) h = one_within (0 ∷ of_file) (0 ∷ of_list) (outcome (refused z)).verdict.number tt h

pub else_refused : (file : List ℕ) → ¬ Acceptable file → RefusedAs (answer file)
else_refused file n = ⊎_elim (λ x. absurd (n x)) (λ e. e) (acceptable_or_refused file)

module _ (file old : List ℕ) {c : Checked} (told : c ≡ checked_of (outcome (answer file))) where
  abbrev end : Ending
  end = listed (answer file)

  -- the file is refused
  pub list_refused : c.verdict.number ≢ 0 → {r : Written} → r ≡ written_of (refuses c.verdict) → Says file old r old
  list_refused n g =
      let e = else_refused file (λ x. n ((accepts_exactly file c told).1 x)) in
      ends_refused end old (e ∙ ap (λ (x : Checked). refuses x.verdict) (sym told)) g

  module _ (zero : c.verdict.number ≡ 0) where
    listing_written : end ≡ writes (listing_of file)
    listing_written = let i = listed_as file ((accepts_exactly file c told).0 zero) in i ∙ ap (λ e. writes (written e)) (sym i)

    -- the whole listing is written
    pub list_full : length (listing_of file) ≤ length old → {m : ℕ} → m ≡ length (listing_of file) → {new : List ℕ} → new ≡ filled (listing_of file) old
        → Says file old (record { verdict = accepting; length = m }) new
    list_full h long n = ends_written end old listing_written h (ap (λ (m : ℕ). record { verdict = accepting; length = m }) long) n

    -- the test of the room says whether the listing can be written
    module _ {b : Bool} (e : b ≡ leb (length (listing_of file)) (length old)) where
      pub list_no_room : b ≡ false → {v : Verdict} → v ≡ refusing 16 0 → {r : Written} → r ≡ written_of (refuses v) → Says file old r old
      list_no_room n w g = ends_short end old listing_written (leb-false (length (listing_of file)) (length old) (sym e ∙ n)) w g

      pub list_room : b ≡ true → length (listing_of file) ≤ length old
      list_room y = leb-true (length (listing_of file)) (length old) (sym e ∙ y)
