-- What the statement of `load_medium` comes to: it admits one answer; a refused call leaves columns and table as they were; after any other, row i
-- of each column is that field of payment i of all files, row j of the table tells of file j, and the figures are the numbers of files and payments.
-- As for `load`, everything is read off the equations of `MediumSays`: which figures are given goes by the cases of the answer and of the room, and
-- which files are written hangs on the result's number alone. Rows and the places that they name are found in `MediumRowLaws`.
use Prim.Native.Nat.{ℕ, ◌+◌}
use native.Mathlib.Omega.{arith}
use mathlib.Core.Path.{◌≡◌, refl, sym, ap, subst, ◌∙◌}
use mathlib.Core.Logic.{◌↔◌, ◌≢◌}
use mathlib.Core.Bool.{Bool, true, false}
use mathlib.Core.List.{List, [], ◌∷◌}
use mathlib.Core.Option.{some}
use lib.ListN.{length, take, drop, get_or, get_elem?, length-map}
use lib.Dec.{T}
use borrow.Author.Tests.{eq-eqb, ne_eqb}
use Rattle.form.specs.Kind.{one_of}
use Rattle.form.specs.Reader.{Answer, accepted, refused}
use Rattle.form.proofs.NumberLaws.{one_within}
use Rattle.verdict.specs.Lent.{filled}
use Rattle.verdict.specs.Numbers.{of_medium, of_load_medium}
use Rattle.verdict.proofs.LentLaws.{filled_behind}
use Rattle.document.specs.Values.{Payment, Document, totals}
use Rattle.document.specs.Medium.{all_payments}
use Rattle.diskette.specs.Writing.{write_payment, write}
use Rattle.diskette.specs.Fields.{Name}
use Rattle.diskette.specs.Medium.{write_medium, AcceptableMedium, medium_answer, files_of, medium_outcome}
use Rattle.diskette.proofs.MediumPromises.{RefusedMedium, else_refused, zero_exactly, accepted_exactly, accepted_reading}
use Rattle.diskette.proofs.MediumPromises as form
use Rattle.medium.specs.declared.MediumChecked.{MediumChecked}
use Rattle.medium.specs.Checking.{medium_checked_of}
use Rattle.loader.specs.Columns.{bank_codes, accounts, cents}
use Rattle.loader.specs.Medium.{medium_starts, file_starts, file_counts, file_accounts, file_bank_codes, file_cents, medium_room, no_medium_room, if_medium_room, medium_loading, files_loaded}
use Rattle.loader.proofs.MediumLoadLaws.{length_medium_starts, length_file_starts, MediumFilled, MediumSays}
use Rattle.loader.proofs.RowLaws.{in_front, row_of}
use Rattle.loader.proofs.MediumRowLaws.{Located, ahead_of, located, file_start_there, around_file, cut, around_row}

sixteen : ◌≡◌ {A = ℕ} 0 16 → ⊥
sixteen e = omega arith

-- 0, or one of the numbers of a load of a medium: never 15
pub loading_number : (columns table : List (List ℕ)) (medium : List ℕ) → T (one_of (0 ∷ of_load_medium) (medium_loading columns table (medium_answer medium)).verdict.number)
unfolding medium_loading medium_outcome
loading_number columns table medium = by (medium_answer medium) (form.number_listed medium)
  where
    with_room : (b : Bool) (ds : List Document) → T (one_of (0 ∷ of_load_medium) (if_medium_room b (medium_outcome (accepted ds))).verdict.number)
    with_room true ds = tt
    with_room false ds = tt

    by : (a : Answer Name (List Document)) → T (one_of (0 ∷ of_medium) (medium_outcome a).verdict.number)
        → T (one_of (0 ∷ of_load_medium) (medium_loading columns table a).verdict.number)
    by (accepted ds) h = with_room (medium_room columns table ds) ds
    by (refused z) h = one_within (0 ∷ of_medium) (0 ∷ of_load_medium) (medium_outcome (refused z)).verdict.number tt h

module _ (medium c4 c5 c12 start begin count sum5 sum4 sum12 : List ℕ) where
  pub one_answer : (r s : MediumChecked) (a₁ a₂ a₃ a₄ a₅ a₆ a₇ a₈ a₉ b₁ b₂ b₃ b₄ b₅ b₆ b₇ b₈ b₉ : List ℕ)
      → MediumSays medium c4 c5 c12 start begin count sum5 sum4 sum12 r a₁ a₂ a₃ a₄ a₅ a₆ a₇ a₈ a₉ → MediumSays medium c4 c5 c12 start begin count sum5 sum4 sum12 s b₁ b₂ b₃ b₄ b₅ b₆ b₇ b₈ b₉
      → (r ≡ s) × (a₁ ≡ b₁) × (a₂ ≡ b₂) × (a₃ ≡ b₃) × (a₄ ≡ b₄) × (a₅ ≡ b₅) × (a₆ ≡ b₆) × (a₇ ≡ b₇) × (a₈ ≡ b₈) × (a₉ ≡ b₉)
  one_answer r s a₁ a₂ a₃ a₄ a₅ a₆ a₇ a₈ a₉ b₁ b₂ b₃ b₄ b₅ b₆ b₇ b₈ b₉ d e =
      let same : r ≡ s = d.0 ∙ sym e.0 in
      let files : files_loaded r medium ≡ files_loaded s medium = ap (λ (x : MediumChecked). files_loaded x medium) same in (
        same,
        d.1.0 ∙ ap (λ y. filled (bank_codes (all_payments y)) c4) files ∙ sym e.1.0,
        d.1.1.0 ∙ ap (λ y. filled (accounts (all_payments y)) c5) files ∙ sym e.1.1.0,
        d.1.1.1.0 ∙ ap (λ y. filled (cents (all_payments y)) c12) files ∙ sym e.1.1.1.0,
        d.1.1.1.1.0 ∙ ap (λ y. filled (medium_starts 0 y) start) files ∙ sym e.1.1.1.1.0,
        d.1.1.1.1.1.0 ∙ ap (λ y. filled (file_starts 0 y) begin) files ∙ sym e.1.1.1.1.1.0,
        d.1.1.1.1.1.1.0 ∙ ap (λ y. filled (file_counts y) count) files ∙ sym e.1.1.1.1.1.1.0,
        d.1.1.1.1.1.1.1.0 ∙ ap (λ y. filled (file_accounts y) sum5) files ∙ sym e.1.1.1.1.1.1.1.0,
        d.1.1.1.1.1.1.1.1.0 ∙ ap (λ y. filled (file_bank_codes y) sum4) files ∙ sym e.1.1.1.1.1.1.1.1.0,
        d.1.1.1.1.1.1.1.1.1 ∙ ap (λ y. filled (file_cents y) sum12) files ∙ sym e.1.1.1.1.1.1.1.1.1,
      )

  abbrev columns : List (List ℕ)
  columns = c4 ∷ c5 ∷ c12 ∷ start ∷ []

  abbrev table : List (List ℕ)
  table = begin ∷ count ∷ sum5 ∷ sum4 ∷ sum12 ∷ []

  module _ (r : MediumChecked) (c4' c5' c12' start' begin' count' sum5' sum4' sum12' : List ℕ) (says : MediumSays medium c4 c5 c12 start begin count sum5 sum4 sum12 r c4' c5' c12' start' begin' count' sum5' sum4' sum12') where
    -- a medium that is not acceptable is refused as the check refuses it
    pub refused_as_checked : ¬ AcceptableMedium medium → r ≡ medium_checked_of (medium_outcome (medium_answer medium))
    unfolding medium_loading
    refused_as_checked n = says.0 ∙ by (medium_answer medium) refl
      where
        by : (a : Answer Name (List Document)) → medium_answer medium ≡ a → medium_checked_of (medium_loading columns table a) ≡ medium_checked_of (medium_outcome a)
        by (accepted ds) e = absurd (n ((accepted_exactly medium).0 (ds, e)))
        by (refused z) e = refl

    -- a medium that is not acceptable gets the number and the place of the field that is wrong
    pub refused_medium : ¬ AcceptableMedium medium → RefusedMedium medium r.verdict
    refused_medium n = subst (RefusedMedium medium) (sym (ap (λ (x : MediumChecked). x.verdict) (refused_as_checked n))) (else_refused medium n)

    -- the number is 0 or one of those of a load of a medium
    pub number_listed : T (one_of (0 ∷ of_load_medium) r.verdict.number)
    number_listed = subst (λ (x : MediumChecked). T (one_of (0 ∷ of_load_medium) x.verdict.number)) (sym says.0) (loading_number columns table medium)

    module _ (x : AcceptableMedium medium) where
      answered : r ≡ medium_checked_of (if_medium_room (medium_room columns table x.0) (medium_outcome (accepted x.0)))
      unfolding medium_loading
      answered = says.0 ∙ ap (λ a. medium_checked_of (medium_loading columns table a)) (accepted_reading medium x)

      -- an acceptable medium is answered 16 at 0 without figures where a column is shorter than the payments or the table than the files
      pub no_room_as : medium_room columns table x.0 ≡ false → r ≡ medium_checked_of no_medium_room
      no_room_as e = answered ∙ ap (λ b. medium_checked_of (if_medium_room b (medium_outcome (accepted x.0)))) e

      -- an acceptable medium that there is room for is answered 0 at 0, with the numbers of its files and of their payments
      pub figures_are : medium_room columns table x.0 ≡ true → r ≡ medium_checked_of (medium_outcome (accepted x.0))
      figures_are e = answered ∙ ap (λ b. medium_checked_of (if_medium_room b (medium_outcome (accepted x.0)))) e

      has_room : r.verdict.number ≡ 0 → medium_room columns table x.0 ≡ true
      has_room z = by (medium_room columns table x.0) refl
        where
          by : (b : Bool) → medium_room columns table x.0 ≡ b → b ≡ true
          by true e = refl
          by false e = absurd (sixteen (sym z ∙ ap (λ (l : MediumChecked). l.verdict.number) (no_room_as e)))

    -- 0 exactly for acceptable media that columns and table have room for
    pub loads_exactly : (r.verdict.number ≡ 0) ↔ ((x : AcceptableMedium medium) × (medium_room columns table x.0 ≡ true))
    unfolding medium_loading medium_outcome
    loads_exactly = (
      λ z. let x = acceptable (medium_answer medium) refl z in (x, has_room x z),
      λ y. ap (λ (l : MediumChecked). l.verdict.number) (figures_are y.0 y.1),
    )
      where
        acceptable : (a : Answer Name (List Document)) → medium_answer medium ≡ a → r.verdict.number ≡ 0 → AcceptableMedium medium
        acceptable (accepted ds) e z = (accepted_exactly medium).0 (ds, e)
        acceptable (refused q) e z =
            (zero_exactly medium).0 (ap (λ a. (medium_outcome a).verdict.number) e ∙ sym (ap (λ a. (medium_loading columns table a).verdict.number) e)
            ∙ sym (ap (λ (l : MediumChecked). l.verdict.number) says.0) ∙ z)

    -- a refused call leaves every column as it was, those of the table too
    pub refused_untouched : r.verdict.number ≢ 0
        → (c4' ≡ c4) × ((c5' ≡ c5) × ((c12' ≡ c12) × ((start' ≡ start) × ((begin' ≡ begin) × ((count' ≡ count) × ((sum5' ≡ sum5) × ((sum4' ≡ sum4) × (sum12' ≡ sum12))))))))
    refused_untouched n =
        let none : files_loaded r medium ≡ [] = rw (ne_eqb r.verdict.number 0 n) in
        subst (λ ds. MediumFilled ds c4 c5 c12 start begin count sum5 sum4 sum12 c4' c5' c12' start' begin' count' sum5' sum4' sum12') none says.1

    module _ (zero : r.verdict.number ≡ 0) (x : AcceptableMedium medium) where
      abbrev ds : List Document
      ds = x.0

      -- with 0 all files are written
      loaded : files_loaded r medium ≡ x.0
      unfolding files_of
      loaded = rw (eq-eqb r.verdict.number 0 zero, accepted_reading medium x)

      written : MediumFilled x.0 c4 c5 c12 start begin count sum5 sum4 sum12 c4' c5' c12' start' begin' count' sum5' sum4' sum12'
      written = subst (λ ds. MediumFilled ds c4 c5 c12 start begin count sum5 sum4 sum12 c4' c5' c12' start' begin' count' sum5' sum4' sum12') loaded says.1

      -- row i of the columns, where payment i of all files is p: its three numbers; the files before its own, its A and the payments before it end
      -- where it begins, counted from the medium's first byte, and its bytes stand there
      pub record RowIs (i : ℕ) (p : Payment) : Type 0 where
        pub c4_is : get_or c4' i 0 ≡ p.bank_code
        pub c5_is : get_or c5' i 0 ≡ p.account
        pub c12_is : get_or c12' i 0 ≡ p.cents
        pub place : Located x.0 i p
        pub ahead : take (get_or start' i 0) medium ≡ ahead_of place
        pub bytes : take (length (write_payment p)) (drop (get_or start' i 0) medium) ≡ write_payment p

      pub columns_are : (i : ℕ) (p : Payment) → get_elem? (all_payments x.0) i ≡ some p → RowIs i p
      columns_are i p e =
          let ps = all_payments ds in
          let l = located 0 ds x.1.each i p e in
          let starts-at : get_or start' i 0 ≡ 0 + length (ahead_of l.0) = ap (λ c. get_or c i 0) written.1.1.1.0 ∙ in_front (medium_starts 0 ds) _ i l.1 in
          let a = around_row l.0 in
          let s = cut (ahead_of l.0) (write_payment p) a.0 medium (a.1 ∙ x.2) (get_or start' i 0) (starts-at ∙ omega arith) in
          record {
            c4_is = ap (λ c. get_or c i 0) written.0 ∙ row_of p (λ y. y.bank_code) ps i _ e;
            c5_is = ap (λ c. get_or c i 0) written.1.0 ∙ row_of p (λ y. y.account) ps i _ e;
            c12_is = ap (λ c. get_or c i 0) written.1.1.0 ∙ row_of p (λ y. y.cents) ps i _ e;
            place = l.0;
            ahead = s.0;
            bytes = s.1;
          }

      -- row j of the table, where file j is d: the files before it end where it begins, and its bytes stand there; its count and its three totals
      pub record TableRowIs (j : ℕ) (d : Document) : Type 0 where
        pub ahead : take (get_or begin' j 0) medium ≡ write_medium (take j x.0)
        pub bytes : take (length (write d)) (drop (get_or begin' j 0) medium) ≡ write d
        pub count_is : get_or count' j 0 ≡ (totals d.payments).count
        pub accounts_are : get_or sum5' j 0 ≡ (totals d.payments).accounts
        pub bank_codes_are : get_or sum4' j 0 ≡ (totals d.payments).bank_codes
        pub cents_are : get_or sum12' j 0 ≡ (totals d.payments).cents

      pub table_is : (j : ℕ) (d : Document) → get_elem? x.0 j ≡ some d → TableRowIs j d
      table_is j d e =
          let t = written.1.1.1.1 in
          let begins-at : get_or begin' j 0 ≡ 0 + length (write_medium (take j ds)) = ap (λ c. get_or c j 0) t.0 ∙ in_front (file_starts 0 ds) _ j (file_start_there 0 ds j d e) in
          let s = cut (write_medium (take j ds)) (write d) _ medium (sym (around_file ds j d e) ∙ x.2) (get_or begin' j 0) (begins-at ∙ omega arith) in
          record {
            ahead = s.0;
            bytes = s.1;
            count_is = ap (λ c. get_or c j 0) t.1.0 ∙ row_of d (λ y. (totals y.payments).count) ds j _ e;
            accounts_are = ap (λ c. get_or c j 0) t.1.1.0 ∙ row_of d (λ y. (totals y.payments).accounts) ds j _ e;
            bank_codes_are = ap (λ c. get_or c j 0) t.1.1.1.0 ∙ row_of d (λ y. (totals y.payments).bank_codes) ds j _ e;
            cents_are = ap (λ c. get_or c j 0) t.1.1.1.1 ∙ row_of d (λ y. (totals y.payments).cents) ds j _ e;
          }

      payments_counted : length (all_payments x.0) ≡ r.payments
      unfolding medium_outcome
      payments_counted = sym (ap (λ (l : MediumChecked). l.payments) (figures_are x (has_room x zero)))

      files_counted : length x.0 ≡ r.files
      unfolding medium_outcome
      files_counted = sym (ap (λ (l : MediumChecked). l.files) (figures_are x (has_room x zero)))

      -- rows of the columns from the number of payments on are as they were
      pub tails_are : (drop r.payments c4' ≡ drop r.payments c4) × (drop r.payments c5' ≡ drop r.payments c5)
          × (drop r.payments c12' ≡ drop r.payments c12) × (drop r.payments start' ≡ drop r.payments start)
      tails_are =
          let ps = all_payments ds in (
            filled_behind (bank_codes ps) c4 (sym (length-map ps (λ y. y.bank_code) ∙ payments_counted)) written.0,
            filled_behind (accounts ps) c5 (sym (length-map ps (λ y. y.account) ∙ payments_counted)) written.1.0,
            filled_behind (cents ps) c12 (sym (length-map ps (λ y. y.cents) ∙ payments_counted)) written.1.1.0,
            filled_behind (medium_starts 0 ds) start (sym (length_medium_starts 0 ds ∙ payments_counted)) written.1.1.1.0,
          )

      -- rows of the table from the number of files on are as they were
      pub table_tails_are : (drop r.files begin' ≡ drop r.files begin) × (drop r.files count' ≡ drop r.files count)
          × (drop r.files sum5' ≡ drop r.files sum5) × (drop r.files sum4' ≡ drop r.files sum4) × (drop r.files sum12' ≡ drop r.files sum12)
      table_tails_are =
          let t = written.1.1.1.1 in (
            filled_behind (file_starts 0 ds) begin (sym (length_file_starts 0 ds ∙ files_counted)) t.0,
            filled_behind (file_counts ds) count (sym (length-map ds (λ y. (totals y.payments).count) ∙ files_counted)) t.1.0,
            filled_behind (file_accounts ds) sum5 (sym (length-map ds (λ y. (totals y.payments).accounts) ∙ files_counted)) t.1.1.0,
            filled_behind (file_bank_codes ds) sum4 (sym (length-map ds (λ y. (totals y.payments).bank_codes) ∙ files_counted)) t.1.1.1.0,
            filled_behind (file_cents ds) sum12 (sym (length-map ds (λ y. (totals y.payments).cents) ∙ files_counted)) t.1.1.1.1,
          )
