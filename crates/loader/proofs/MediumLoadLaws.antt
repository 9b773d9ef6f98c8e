-- A load of a medium, once the check has answered: the medium's refusal, no room, or all rows.
use Prim.Native.Nat.{ℕ, suc, ◌+◌}
use mathlib.Core.Path.{◌≡◌, refl, sym, ap, subst, ◌∙◌}
use mathlib.Core.Logic.{◌≢◌}
use mathlib.Core.Bool.{Bool, true, false, ◌&&◌, and-true}
use mathlib.Core.List.{List, [], ◌∷◌}
use lib.ListN.{length, length-append, length-map}
use lib.Dec.{leb}
use borrow.Author.Tests.{eq-eqb, ne_eqb}
use Rattle.form.specs.Reader.{Answer, accepted, refused}
use Rattle.verdict.specs.Lent.{filled}
use Rattle.document.specs.Values.{Payment, Document, totals}
use Rattle.document.specs.Medium.{all_payments}
use Rattle.diskette.specs.Writing.{write}
use Rattle.diskette.specs.Fields.{Name}
use Rattle.diskette.specs.Medium.{AcceptableMedium, medium_answer, files_of, medium_outcome}
use Rattle.diskette.proofs.MediumPromises.{zero_exactly, accepted_reading, files_counted}
use Rattle.layout.specs.Steps.{first_payment}
use Rattle.medium.specs.declared.MediumChecked.{MediumChecked}
use Rattle.medium.specs.Checking.{medium_checked_of}
use Rattle.loader.specs.Columns.{bank_codes, accounts, cents, starts_in}
use Rattle.loader.specs.Loading.{have_room}
use Rattle.loader.specs.Medium.{medium_starts, file_starts, file_counts, file_accounts, file_bank_codes, file_cents, medium_room, no_medium_room, if_medium_room, medium_loading, files_loaded, MediumFillable}
use Rattle.loader.proofs.ColumnLaws.{sets_filled}
use Rattle.loader.proofs.FillLaws.{length_starts}
use Rattle.loader.proofs.LoadLaws.{four_tested, room_of_four}
use Rattle.loader.proofs.MediumFillLaws.{files_in, columns_roomy, table_roomy, MediumSet}

-- ---- as many rows as payments and files

pub length_medium_starts : (p : ℕ) (ds : List Document) → length (medium_starts p ds) ≡ length (all_payments ds)
length_medium_starts p [] = refl
length_medium_starts p (d ∷ ds) =
    length-append (starts_in p d.payments) (medium_starts (p + length (write d)) ds)
    ∙ ap (λ n. n + length (medium_starts (p + length (write d)) ds)) (length_starts (p + first_payment) d.payments)
    ∙ ap (λ n. length d.payments + n) (length_medium_starts (p + length (write d)) ds) ∙ sym (length-append d.payments (all_payments ds))

pub length_file_starts : (p : ℕ) (ds : List Document) → length (file_starts p ds) ≡ length ds
length_file_starts p [] = refl
length_file_starts p (d ∷ ds) = ap suc (length_file_starts (p + length (write d)) ds)

-- ---- room

-- the test of the table's five columns as the code has it
abbrev pub five_tested : ℕ → List ℕ → List ℕ → List ℕ → List ℕ → List ℕ → Bool
five_tested n a b c d e = leb n (length a) && (leb n (length b) && (leb n (length c) && (leb n (length d) && leb n (length e))))

room_of_five : (n : ℕ) (a b c d e : List ℕ) → five_tested n a b c d e ≡ have_room n (a ∷ b ∷ c ∷ d ∷ e ∷ [])
room_of_five n a b c d e =
    ap (λ t. leb n (length a) && (leb n (length b) && (leb n (length c) && (leb n (length d) && t)))) (sym (and-true (leb n (length e))))

-- ---- the statement

-- the nine columns with the rows of these files, and behind them what they held before
abbrev pub MediumFilled : List Document → List ℕ → List ℕ → List ℕ → List ℕ → List ℕ → List ℕ → List ℕ → List ℕ → List ℕ → List ℕ → List ℕ → List ℕ → List ℕ → List ℕ → List ℕ → List ℕ → List ℕ → List ℕ → Type 0
MediumFilled all c4 c5 c12 start begin count sum5 sum4 sum12 c4' c5' c12' start' begin' count' sum5' sum4' sum12' =
    let ps = all_payments all in
    (c4' ≡ filled (bank_codes ps) c4) × ((c5' ≡ filled (accounts ps) c5) × ((c12' ≡ filled (cents ps) c12) × ((start' ≡ filled (medium_starts 0 all) start)
    × ((begin' ≡ filled (file_starts 0 all) begin) × ((count' ≡ filled (file_counts all) count) × ((sum5' ≡ filled (file_accounts all) sum5)
    × ((sum4' ≡ filled (file_bank_codes all) sum4) × (sum12' ≡ filled (file_cents all) sum12))))))))

-- what `load_medium` ensures of its result and of the columns, for the medium and what the columns held before
abbrev pub MediumSays : List ℕ → List ℕ → List ℕ → List ℕ → List ℕ → List ℕ → List ℕ → List ℕ → List ℕ → List ℕ → MediumChecked → List ℕ → List ℕ → List ℕ → List ℕ → List ℕ → List ℕ → List ℕ → List ℕ → List ℕ → Type 0
MediumSays medium c4 c5 c12 start begin count sum5 sum4 sum12 r c4' c5' c12' start' begin' count' sum5' sum4' sum12' =
    (r ≡ medium_checked_of (medium_loading (c4 ∷ c5 ∷ c12 ∷ start ∷ []) (begin ∷ count ∷ sum5 ∷ sum4 ∷ sum12 ∷ []) (medium_answer medium)))
    × MediumFilled (files_loaded r medium) c4 c5 c12 start begin count sum5 sum4 sum12 c4' c5' c12' start' begin' count' sum5' sum4' sum12'

module _ (medium c4 c5 c12 start begin count sum5 sum4 sum12 : List ℕ) where
  abbrev columns : List (List ℕ)
  columns = c4 ∷ c5 ∷ c12 ∷ start ∷ []

  abbrev table : List (List ℕ)
  table = begin ∷ count ∷ sum5 ∷ sum4 ∷ sum12 ∷ []

  tested_as : (payments files : ℕ) → four_tested payments c4 c5 c12 start && five_tested files begin count sum5 sum4 sum12 ≡ have_room payments columns && have_room files table
  tested_as payments files = rw (room_of_four payments c4 c5 c12 start, room_of_five files begin count sum5 sum4 sum12)

  -- where no file is loaded, the columns are as they were
  unchanged : (r : MediumChecked) → r ≡ medium_checked_of (medium_loading columns table (medium_answer medium)) → files_loaded r medium ≡ []
      → MediumSays medium c4 c5 c12 start begin count sum5 sum4 sum12 r c4 c5 c12 start begin count sum5 sum4 sum12
  unchanged r e n = (
    e,
    subst (λ ds. MediumFilled ds c4 c5 c12 start begin count sum5 sum4 sum12 c4 c5 c12 start begin count sum5 sum4 sum12) (sym n)
        (refl, (refl, (refl, (refl, (refl, (refl, (refl, (refl, refl)))))))),
  )

  module _ {c : MediumChecked} (told : c ≡ medium_checked_of (medium_outcome (medium_answer medium))) where
    -- the medium is refused
    pub medium_refused : c.verdict.number ≢ 0 → MediumSays medium c4 c5 c12 start begin count sum5 sum4 sum12 c c4 c5 c12 start begin count sum5 sum4 sum12
    unfolding medium_outcome medium_loading
    medium_refused n = unchanged c (told ∙ by (medium_answer medium) refl) (rw (ne_eqb c.verdict.number 0 n))
      where
        by : (a : Answer Name (List Document)) → medium_answer medium ≡ a → medium_checked_of (medium_outcome a) ≡ medium_checked_of (medium_loading columns table a)
        by (accepted ds) i = absurd (n (ap (λ (x : MediumChecked). x.verdict.number) told ∙ ap (λ a. (medium_outcome a).verdict.number) i))
        by (refused z) i = refl

    files_is : c.files ≡ length (files_in medium)
    files_is = ap (λ (x : MediumChecked). x.files) told ∙ (files_counted (medium_answer medium)).0

    payments_is : c.payments ≡ length (all_payments (files_in medium))
    payments_is = ap (λ (x : MediumChecked). x.payments) told ∙ (files_counted (medium_answer medium)).1

    module _ (zero : c.verdict.number ≡ 0) where
      reading : AcceptableMedium medium
      reading = (zero_exactly medium).0 (sym (ap (λ (x : MediumChecked). x.verdict.number) told) ∙ zero)

      -- the room that the code tests is that for the medium's files
      abbrev tested : Bool
      tested = four_tested c.payments c4 c5 c12 start && five_tested c.files begin count sum5 sum4 sum12

      room_is : tested ≡ medium_room columns table reading.0
      unfolding files_of
      room_is =
          let all : files_in medium ≡ reading.0 = ap files_of (accepted_reading medium reading) in
          tested_as c.payments c.files
          ∙ ap (λ n. have_room n columns && have_room c.files table) (payments_is ∙ ap (λ ds. length (all_payments ds)) all)
          ∙ ap (λ n. have_room (length (all_payments reading.0)) columns && have_room n table) (files_is ∙ ap length all)

      loaded_if : medium_loading columns table (medium_answer medium) ≡ if_medium_room tested (medium_outcome (medium_answer medium))
      unfolding medium_loading
      loaded_if =
          let e = accepted_reading medium reading in
          ap (medium_loading columns table) e ∙ ap (λ b. if_medium_room b (medium_outcome (accepted reading.0))) (sym room_is)
          ∙ ap (λ a. if_medium_room tested (medium_outcome a)) (sym e)

      -- a column or the table is too short
      pub medium_no_room : four_tested c.payments c4 c5 c12 start && five_tested c.files begin count sum5 sum4 sum12 ≡ false
          → MediumSays medium c4 c5 c12 start begin count sum5 sum4 sum12 (medium_checked_of no_medium_room) c4 c5 c12 start begin count sum5 sum4 sum12
      medium_no_room f = unchanged (medium_checked_of no_medium_room) (ap medium_checked_of (sym (loaded_if ∙ rw f))) refl

      -- all rows are written
      module _ (t : four_tested c.payments c4 c5 c12 start && five_tested c.files begin count sum5 sum4 sum12 ≡ true) where
        pub medium_may_fill : MediumFillable medium columns table
        medium_may_fill = record { files = reading.0; answered = accepted_reading medium reading; room = sym room_is ∙ t }

        all_filled : {c4' c5' c12' start' begin' count' sum5' sum4' sum12' : List ℕ} → MediumSet (files_in medium) c4 c5 c12 start begin count sum5 sum4 sum12 c4' c5' c12' start' begin' count' sum5' sum4' sum12' → MediumFilled (files_in medium) c4 c5 c12 start begin count sum5 sum4 sum12 c4' c5' c12' start' begin' count' sum5' sum4' sum12'
        all_filled g =
            let all = files_in medium in
            let ps = all_payments all in
            let r = columns_roomy medium_may_fill in
            let t = table_roomy medium_may_fill in (
              g.0 ∙ sets_filled (bank_codes ps) c4 (rw (length-map ps (λ (x : Payment). x.bank_code)) r.c4),
              (
                g.1.0 ∙ sets_filled (accounts ps) c5 (rw (length-map ps (λ (x : Payment). x.account)) r.c5),
                (
                  g.1.1.0 ∙ sets_filled (cents ps) c12 (rw (length-map ps (λ (x : Payment). x.cents)) r.c12),
                  (
                    g.1.1.1.0 ∙ sets_filled (medium_starts 0 all) start (rw (length_medium_starts 0 all) r.start),
                    (
                      g.1.1.1.1.0 ∙ sets_filled (file_starts 0 all) begin (rw (length_file_starts 0 all) t.begin),
                      (
                        g.1.1.1.1.1.0 ∙ sets_filled (file_counts all) count (rw (length-map all (λ (d : Document). (totals d.payments).count)) t.count),
                        (
                          g.1.1.1.1.1.1.0
                              ∙ sets_filled (file_accounts all) sum5 (rw (length-map all (λ (d : Document). (totals d.payments).accounts)) t.sum5),
                          (
                            g.1.1.1.1.1.1.1.0
                                ∙ sets_filled (file_bank_codes all) sum4 (rw (length-map all (λ (d : Document). (totals d.payments).bank_codes)) t.sum4),
                            g.1.1.1.1.1.1.1.1
                                ∙ sets_filled (file_cents all) sum12 (rw (length-map all (λ (d : Document). (totals d.payments).cents)) t.sum12),
                          ),
                        ),
                      ),
                    ),
                  ),
                ),
              ),
            )

        pub medium_full : {c4' c5' c12' start' begin' count' sum5' sum4' sum12' : List ℕ} → MediumSet (files_in medium) c4 c5 c12 start begin count sum5 sum4 sum12 c4' c5' c12' start' begin' count' sum5' sum4' sum12' → MediumSays medium c4 c5 c12 start begin count sum5 sum4 sum12 c c4' c5' c12' start' begin' count' sum5' sum4' sum12'
        medium_full {c4'} {c5'} {c12'} {start'} {begin'} {count'} {sum5'} {sum4'} {sum12'} g =
            let all : files_in medium ≡ files_loaded c medium = rw (eq-eqb c.verdict.number 0 zero) in
            (told ∙ ap medium_checked_of (sym (loaded_if ∙ rw t)), subst (λ ds. MediumFilled ds c4 c5 c12 start begin count sum5 sum4 sum12 c4' c5' c12' start' begin' count' sum5' sum4' sum12') all (all_filled g))
