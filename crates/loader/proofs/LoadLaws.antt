-- A load, once the check has answered: the file's refusal, no room, or all rows.
use Prim.Native.Nat.{ℕ}
use mathlib.Core.Path.{◌≡◌, refl, sym, ap, subst, ◌∙◌}
use mathlib.Core.Logic.{◌≢◌}
use mathlib.Core.Bool.{Bool, true, false, ◌&&◌, and-true}
use mathlib.Core.List.{List, [], ◌∷◌}
use lib.ListN.{length}
use lib.Dec.{leb}
use borrow.Author.Tests.{eq-eqb, ne_eqb}
use Rattle.form.specs.Reader.{Answer, accepted, refused}
use Rattle.document.specs.Values.{Document}
use Rattle.diskette.specs.Fields.{Name}
use Rattle.diskette.specs.Answer.{answer, outcome, payments_of}
use Rattle.diskette.proofs.Promises.{zero_exactly, accepted_exactly, payments_counted}
use Rattle.checker.specs.declared.Checked.{Checked}
use Rattle.checker.specs.Checking.{checked_of}
use Rattle.loader.specs.Loading.{have_room, if_room, loading, no_room, rows}
use Rattle.loader.proofs.ColumnLaws.{Filled}

-- the test of four columns as the code has it
abbrev pub four_tested : ℕ → List ℕ → List ℕ → List ℕ → List ℕ → Bool
four_tested n a b c d = leb n (length a) && (leb n (length b) && (leb n (length c) && leb n (length d)))

pub room_of_four : (n : ℕ) (a b c d : List ℕ) → four_tested n a b c d ≡ have_room n (a ∷ b ∷ c ∷ d ∷ [])
room_of_four n a b c d = ap (λ t. leb n (length a) && (leb n (length b) && (leb n (length c) && t))) (sym (and-true (leb n (length d))))

-- what `load` ensures of its result and of the columns, for the file and what the columns held before
abbrev pub Says : List ℕ → List ℕ → List ℕ → List ℕ → List ℕ → Checked → List ℕ → List ℕ → List ℕ → List ℕ → Type 0
Says file c4 c5 c12 start r c4' c5' c12' start' =
    (r ≡ checked_of (loading (c4 ∷ c5 ∷ c12 ∷ start ∷ []) (answer file))) × Filled (rows r file) c4 c5 c12 start c4' c5' c12' start'

-- the check accepts the file
module _ (file : List ℕ) {c : Checked} (told : c ≡ checked_of (outcome (answer file))) (zero : c.verdict.number ≡ 0) where
  pub accepted_as : (d : Document) × (answer file ≡ accepted d)
  accepted_as = (accepted_exactly file).1 ((zero_exactly file).0 (sym (ap (λ (x : Checked). x.verdict.number) told) ∙ zero))

  pub count_is : c.count ≡ length (payments_of (answer file))
  count_is = ap (λ (x : Checked). x.count) told ∙ payments_counted (answer file)

module _ (file c4 c5 c12 start : List ℕ) where
  abbrev columns : List (List ℕ)
  columns = c4 ∷ c5 ∷ c12 ∷ start ∷ []

  -- where no row is written, the columns are as they were
  unchanged : (r : Checked) → r ≡ checked_of (loading columns (answer file)) → rows r file ≡ [] → Says file c4 c5 c12 start r c4 c5 c12 start
  unchanged r e n = (e, subst (λ ps. Filled ps c4 c5 c12 start c4 c5 c12 start) (sym n) (refl, (refl, (refl, refl))))

  module _ {c : Checked} (told : c ≡ checked_of (outcome (answer file))) where
    -- the file is refused
    pub load_refused : c.verdict.number ≢ 0 → Says file c4 c5 c12 start c c4 c5 c12 start
    unfolding outcome loading
    load_refused n = unchanged c (told ∙ by (answer file) refl) (rw (ne_eqb c.verdict.number 0 n))
      where
        by : (a : Answer Name Document) → answer file ≡ a → checked_of (outcome a) ≡ checked_of (loading columns a)
        by (accepted d) i = absurd (n (ap (λ (x : Checked). x.verdict.number) told ∙ ap (λ a. (outcome a).verdict.number) i))
        by (refused z) i = refl

    module _ (zero : c.verdict.number ≡ 0) where
      -- an accepted file is answered by its figures where the columns have room for the count, else by 16
      loaded_if : loading columns (answer file) ≡ if_room (have_room c.count columns) (outcome (answer file))
      unfolding payments_of loading
      loaded_if = let e = (accepted_as file told zero).1 in rw (count_is file told zero, e)

      -- a column is too short
      pub load_no_room : four_tested c.count c4 c5 c12 start ≡ false → Says file c4 c5 c12 start (checked_of no_room) c4 c5 c12 start
      load_no_room f = unchanged (checked_of no_room) (ap checked_of (sym (loaded_if ∙ rw (sym (room_of_four c.count c4 c5 c12 start) ∙ f)))) refl

      -- all rows are written
      module _ (t : four_tested c.count c4 c5 c12 start ≡ true) where
        pub may_fill : (c.count ≡ length (payments_of (answer file))) × (have_room c.count columns ≡ true)
        may_fill = (count_is file told zero, sym (room_of_four c.count c4 c5 c12 start) ∙ t)

        pub load_full : {c4' c5' c12' start' : List ℕ} → Filled (payments_of (answer file)) c4 c5 c12 start c4' c5' c12' start'
            → Says file c4 c5 c12 start c c4' c5' c12' start'
        load_full {c4'} {c5'} {c12'} {start'} f =
            let all : payments_of (answer file) ≡ rows c file = rw (eq-eqb c.verdict.number 0 zero) in
            (told ∙ ap checked_of (sym (loaded_if ∙ rw may_fill.1)), subst (λ ps. Filled ps c4 c5 c12 start c4' c5' c12' start') all f)
