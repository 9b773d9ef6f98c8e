-- What the statement of `load` comes to: it admits one answer; a refused call leaves the columns as they were; after any other, row i of each
-- column is that field of payment i, and count and totals are those of the payments.
-- Everything is read off the equations of `Says`. Which figures are given goes by the cases of the form's answer, refused or accepted, and of
-- the room; which rows are written hangs on the result's number alone (`rows`). The longest step is `columns_are`: row i of a filled column is
-- found by induction over the payments (`row_of`, `start_of`), the start is where A and the payments before payment i end, and `stands_at` cuts
-- the file there.
use Prim.Native.Nat.{ℕ, ◌+◌}
use native.Mathlib.Omega.{arith}
use mathlib.Core.Path.{◌≡◌, refl, sym, ap, subst, ◌∙◌}
use mathlib.Core.Logic.{◌↔◌, ◌≢◌}
use mathlib.Core.Bool.{Bool, true, false}
use mathlib.Core.List.{List, [], ◌∷◌, ◌++◌}
use mathlib.Core.Option.{some}
use lib.ListN.{length, take, drop, get_or, get_elem?, length-map}
use lib.Dec.{T}
use borrow.Author.Tests.{eq-eqb, ne_eqb}
use Rattle.form.specs.Kind.{one_of}
use Rattle.form.specs.Reader.{Answer, accepted, refused}
use Rattle.form.proofs.NumberLaws.{one_within}
use Rattle.document.specs.Values.{Payment, Document, totals}
use Rattle.diskette.specs.Writing.{write_header, write_payment, write_payments, Acceptable}
use Rattle.diskette.specs.Fields.{Name}
use Rattle.verdict.specs.Verdicts.{accepting}
use Rattle.verdict.specs.Lent.{filled}
use Rattle.verdict.specs.Numbers.{of_file, of_load}
use Rattle.verdict.proofs.LentLaws.{filled_behind}
use Rattle.diskette.specs.Answer.{answer, outcome, payments_of}
use Rattle.diskette.proofs.LayoutLaws.{header_length}
use Rattle.diskette.proofs.Promises.{RefusedFile, else_refused, zero_exactly, accepted_exactly, accepted_reading}
use Rattle.diskette.proofs.Promises as form
use Rattle.layout.specs.Steps.{first_payment}
use Rattle.checker.specs.declared.Checked.{Checked}
use Rattle.checker.specs.Checking.{checked_of}
use Rattle.loader.specs.Columns.{bank_codes, accounts, cents, starts}
use Rattle.loader.specs.Loading.{have_room, if_room, no_room, loading, rows}
use Rattle.loader.proofs.ColumnLaws.{Filled}
use Rattle.loader.proofs.FillLaws.{length_starts}
use Rattle.loader.proofs.LoadLaws.{Says}
use Rattle.loader.proofs.RowLaws.{row_of, start_of, stands_at}

sixteen : ◌≡◌ {A = ℕ} 0 16 → ⊥
sixteen e = omega arith

-- 0, or one of the numbers of a load
pub loading_number : (columns : List (List ℕ)) (file : List ℕ) → T (one_of (0 ∷ of_load) (loading columns (answer file)).verdict.number)
unfolding loading outcome
loading_number columns file = by (answer file) (form.number_listed file)
  where
    with_room : (b : Bool) (d : Document) → T (one_of (0 ∷ of_load) (if_room b (outcome (accepted d))).verdict.number)
    with_room true d = tt
    with_room false d = tt

    by : (a : Answer Name Document) → T (one_of (0 ∷ of_file) (outcome a).verdict.number) → T (one_of (0 ∷ of_load) (loading columns a).verdict.number)
    by (accepted d) h = with_room (have_room (length d.payments) columns) d
    by (refused z) h = one_within (0 ∷ of_file) (0 ∷ of_load) (outcome (refused z)).verdict.number tt h

module _ (file c4 c5 c12 start : List ℕ) where
  pub one_answer : (r s : Checked) (a₁ a₂ a₃ a₄ b₁ b₂ b₃ b₄ : List ℕ) → Says file c4 c5 c12 start r a₁ a₂ a₃ a₄ → Says file c4 c5 c12 start s b₁ b₂ b₃ b₄
      → (r ≡ s) × (a₁ ≡ b₁) × (a₂ ≡ b₂) × (a₃ ≡ b₃) × (a₄ ≡ b₄)
  one_answer r s a₁ a₂ a₃ a₄ b₁ b₂ b₃ b₄ d e =
      let same : r ≡ s = d.0 ∙ sym e.0 in
      let ps : rows r file ≡ rows s file = ap (λ (x : Checked). rows x file) same in (
        same,
        d.1.0 ∙ ap (λ y. filled (bank_codes y) c4) ps ∙ sym e.1.0,
        d.1.1.0 ∙ ap (λ y. filled (accounts y) c5) ps ∙ sym e.1.1.0,
        d.1.1.1.0 ∙ ap (λ y. filled (cents y) c12) ps ∙ sym e.1.1.1.0,
        d.1.1.1.1 ∙ ap (λ y. filled (starts y) start) ps ∙ sym e.1.1.1.1,
      )

  abbrev columns : List (List ℕ)
  columns = c4 ∷ c5 ∷ c12 ∷ start ∷ []

  module _ (r : Checked) (c4' c5' c12' start' : List ℕ) (says : Says file c4 c5 c12 start r c4' c5' c12' start') where
    -- a file that is not acceptable is refused as the check refuses it
    pub refused_as_checked : ¬ Acceptable file → r ≡ checked_of (outcome (answer file))
    unfolding loading
    refused_as_checked n = says.0 ∙ by (answer file) refl
      where
        by : (a : Answer Name Document) → answer file ≡ a → checked_of (loading columns a) ≡ checked_of (outcome a)
        by (accepted d) e = absurd (n ((accepted_exactly file).0 (d, e)))
        by (refused z) e = refl

    -- a file that is not acceptable gets the number and the place of the field that is wrong
    pub refused_file : ¬ Acceptable file → RefusedFile file r.verdict
    refused_file n = subst (RefusedFile file) (sym (ap (λ (x : Checked). x.verdict) (refused_as_checked n))) (else_refused file n)

    -- the number is 0 or one of those of a load
    pub number_listed : T (one_of (0 ∷ of_load) r.verdict.number)
    number_listed = subst (λ (x : Checked). T (one_of (0 ∷ of_load) x.verdict.number)) (sym says.0) (loading_number columns file)

    module _ (x : Acceptable file) where
      abbrev d : Document
      d = x.0

      answered : r ≡ checked_of (if_room (have_room (length d.payments) columns) (outcome (accepted d)))
      unfolding loading
      answered = says.0 ∙ ap (λ a. checked_of (loading columns a)) (accepted_reading file x)

      -- an acceptable file is answered 16 at 0 without figures where a column is shorter than the count
      pub no_room_as : have_room (length d.payments) columns ≡ false → r ≡ checked_of no_room
      no_room_as e = answered ∙ ap (λ b. checked_of (if_room b (outcome (accepted d)))) e

      -- an acceptable file that every column has room for is answered 0 at 0, with count and totals of the payments
      pub figures_are : have_room (length d.payments) columns ≡ true → r ≡ checked_of (record { verdict = accepting; totals = totals d.payments })
      unfolding outcome
      figures_are e = answered ∙ ap (λ b. checked_of (if_room b (outcome (accepted d)))) e

      has_room : r.verdict.number ≡ 0 → have_room (length d.payments) columns ≡ true
      has_room z = by (have_room (length d.payments) columns) refl
        where
          by : (b : Bool) → have_room (length d.payments) columns ≡ b → b ≡ true
          by true e = refl
          by false e = absurd (sixteen (sym z ∙ ap (λ (l : Checked). l.verdict.number) (no_room_as e)))

    -- 0 exactly for acceptable files whose payments each column has room for
    pub loads_exactly : (r.verdict.number ≡ 0) ↔ ((x : Acceptable file) × (have_room (length x.0.payments) columns ≡ true))
    unfolding loading
    loads_exactly = (λ z. let x = acceptable (answer file) refl z in (x, has_room x z), λ y. ap (λ (l : Checked). l.verdict.number) (figures_are y.0 y.1))
      where
        acceptable : (a : Answer Name Document) → answer file ≡ a → r.verdict.number ≡ 0 → Acceptable file
        acceptable (accepted d) e z = (accepted_exactly file).0 (d, e)
        acceptable (refused q) e z =
            (zero_exactly file).0 (ap (λ a. (outcome a).verdict.number) e ∙ sym (ap (λ a. (loading columns a).verdict.number) e) ∙ sym (ap (λ (l : Checked). l.verdict.number) says.0) ∙ z)

    -- a refused call leaves every column as it was
    pub refused_untouched : r.verdict.number ≢ 0 → (c4' ≡ c4) × ((c5' ≡ c5) × ((c12' ≡ c12) × (start' ≡ start)))
    refused_untouched n =
        let none : rows r file ≡ [] = rw (ne_eqb r.verdict.number 0 n) in
        subst (λ ps. Filled ps c4 c5 c12 start c4' c5' c12' start') none says.1

    module _ (zero : r.verdict.number ≡ 0) (x : Acceptable file) where
      -- with 0 the rows written are those of all payments
      loaded : rows r file ≡ x.0.payments
      unfolding payments_of
      loaded = rw (eq-eqb r.verdict.number 0 zero, accepted_reading file x)

      -- row i of the columns, where payment i is p: its three numbers; A and the payments before it end where it begins, and its bytes stand there
      pub record RowIs (i : ℕ) (p : Payment) : Type 0 where
        pub c4_is : get_or c4' i 0 ≡ p.bank_code
        pub c5_is : get_or c5' i 0 ≡ p.account
        pub c12_is : get_or c12' i 0 ≡ p.cents
        pub ahead : take (get_or start' i 0) file ≡ write_header x.0.header ++ write_payments (take i x.0.payments)
        pub bytes : take (length (write_payment p)) (drop (get_or start' i 0) file) ≡ write_payment p

      pub columns_are : (i : ℕ) (p : Payment) → get_elem? x.0.payments i ≡ some p → RowIs i p
      columns_are i p e =
          let ps = x.0.payments in
          let starts-at : get_or start' i 0 ≡ length (write_header x.0.header) + length (write_payments (take i ps))
          = ap (λ c. get_or c i 0) (says.1.1.1.1 ∙ ap (λ y. filled (starts y) start) loaded)
          ∙ start_of p first_payment ps i _ e ∙ ap (λ h. h + length (write_payments (take i ps))) (sym (header_length x.0.header x.1.header)) in
          let s = stands_at x.0 file x.2 i p e (get_or start' i 0) starts-at in
          record {
            c4_is = ap (λ c. get_or c i 0) (says.1.0 ∙ ap (λ y. filled (bank_codes y) c4) loaded) ∙ row_of p (λ y. y.bank_code) ps i _ e;
            c5_is = ap (λ c. get_or c i 0) (says.1.1.0 ∙ ap (λ y. filled (accounts y) c5) loaded) ∙ row_of p (λ y. y.account) ps i _ e;
            c12_is = ap (λ c. get_or c i 0) (says.1.1.1.0 ∙ ap (λ y. filled (cents y) c12) loaded) ∙ row_of p (λ y. y.cents) ps i _ e;
            ahead = s.0;
            bytes = s.1;
          }

      count_is : length (rows r file) ≡ r.count
      count_is = ap length loaded ∙ sym (ap (λ (l : Checked). l.count) (figures_are x (has_room x zero)))

      -- rows from the count on are as they were
      pub tails_are : (drop r.count c4' ≡ drop r.count c4) × (drop r.count c5' ≡ drop r.count c5)
          × (drop r.count c12' ≡ drop r.count c12) × (drop r.count start' ≡ drop r.count start)
      tails_are =
          let ps = rows r file in (
            filled_behind (bank_codes ps) c4 (sym (length-map ps (λ y. y.bank_code) ∙ count_is)) says.1.0,
            filled_behind (accounts ps) c5 (sym (length-map ps (λ y. y.account) ∙ count_is)) says.1.1.0,
            filled_behind (cents ps) c12 (sym (length-map ps (λ y. y.cents) ∙ count_is)) says.1.1.1.0,
            filled_behind (starts ps) start (sym (length_starts first_payment ps ∙ count_is)) says.1.1.1.1,
          )
