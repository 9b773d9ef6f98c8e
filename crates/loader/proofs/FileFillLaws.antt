-- The loop that fills the columns with the payments of one file: one turn writes a row of the next payment, and goes on to the one behind it.
-- The file stands at its place: payments behind A, and then E, so the letter behind a length tells whether another payment comes
-- (`letter_of_lem`). The loop keeps `FileFilling`: the payments left stand at p, the totals so far and theirs together are those of all (`together`), and in
-- each column the rows still to come make of it what all rows make of the old one. With E reached, none is left, and all of it is told.
use Prim.Native.Nat.{ℕ, ◌+◌, ◌*◌, ◌≤◌, ◌<◌, min}
use native.Mathlib.Omega.{arith}
use mathlib.Core.Path.{◌≡◌, refl, sym, ap, subst, ◌∙◌}
use mathlib.Core.Logic.{◌≢◌}
use mathlib.Core.List.{List, [], ◌∷◌, ◌++◌}
use lib.ListN.{length, take, drop, get_or, set, length-append}
use lib.Seq.{sets}
use Rattle.form.specs.Reader.{number}
use Rattle.form.specs.Place.{read_at}
use Rattle.form.proofs.PlaceLaws.{read_inside}
use Rattle.form.proofs.RulesLaws.{read_legal}
use Rattle.form.proofs.FilesLaws.{lies_between}
use Rattle.document.specs.Values.{Payment, Totals, totals, together}
use Rattle.document.specs.Rules.{Legal}
use Rattle.document.specs.Marks.{most_parts}
use Rattle.document.proofs.SumLaws.{together_none, together_nothing, together_more}
use Rattle.diskette.specs.Writing.{section, write_header, write_payment, write_payments, write_end, write}
use Rattle.diskette.specs.Fields.{document}
use Rattle.diskette.proofs.FileSays.{document_says}
use Rattle.diskette.proofs.LayoutLaws.{header_length, end_length}
use Rattle.layout.specs.Places as place
use Rattle.layout.specs.Widths as width
use Rattle.layout.specs.Steps.{first_payment, parts_at}
use Rattle.layout.proofs.PaymentLaws.{Row, row, bytes_there}
use Rattle.layout.proofs.StandLaws.{Stand}
use Rattle.layout.proofs.StepLaws.{some_bytes, Coming, fields_of_end, FileStands, file_stands, first_begun, letter_of_payment, letter_of_end, Next, next_of}
use Rattle.sums.specs.declared.AccountSum.{AccountSum}
use Rattle.sums.specs.declared.BankCodeSum.{BankCodeSum}
use Rattle.sums.specs.declared.CentSum.{CentSum}
use Rattle.sums.specs.declared.Sums.{Sums}
use Rattle.sums.specs.Sums.{sums_of, totals_of}
use Rattle.loader.specs.declared.FileRows.{FileRows}
use Rattle.loader.specs.Columns.{bank_codes, accounts, cents, starts_from, starts_in}
use Rattle.loader.specs.Filling.{Within, plus, payments_read, rows_read, Fillable}
use Rattle.loader.proofs.ColumnLaws.{has_room, RowThere, row_among, ColumnFrom, column_from_start, column_from_more}

pub same_sums : {a b : AccountSum} {c d : BankCodeSum} {e g : CentSum} → a ≡ b → c ≡ d → e ≡ g
    → ◌≡◌ {A = Sums} (record { accounts = a; banks = c; cents = e }) (record { accounts = b; banks = d; cents = g })
same_sums x y z i = record { accounts = x i; banks = y i; cents = z i }

same_rows : {a b c d : ℕ} {t u : Sums} → a ≡ b → t ≡ u → c ≡ d
    → ◌≡◌ {A = FileRows} (record { count = a; sums = t; next = c }) (record { count = b; sums = u; next = d })
same_rows x y z i = record { count = x i; sums = y i; next = z i }

-- the payments of the file that begins at a place
abbrev pub payments_at : List ℕ → ℕ → List Payment
payments_at f begin = payments_read (read_at document f begin)

-- where its E begins
abbrev end_at : List ℕ → ℕ → ℕ
end_at f begin = begin + first_payment + length (write_payments (payments_at f begin))

-- what a fill ensures of its result and of the columns
abbrev pub FilledAt : List ℕ → ℕ → ℕ → List ℕ → List ℕ → List ℕ → List ℕ → FileRows → List ℕ → List ℕ → List ℕ → List ℕ → Type 0
FilledAt f begin row c4 c5 c12 start r c4' c5' c12' start' =
    let ps = payments_at f begin in
    (r ≡ rows_read (read_at document f begin)) × ((c4' ≡ sets c4 row (bank_codes ps)) × ((c5' ≡ sets c5 row (accounts ps))
    × ((c12' ≡ sets c12 row (cents ps)) × (start' ≡ sets start row (starts_in begin ps)))))

-- The columns while they are filled: so many rows from the first on are written, with these sums, and the payments left, from p on, are still to
-- come. E stands behind them, and together they make what all payments make.
pub record Rows (f : List ℕ) (begin first : ℕ) (c4₀ c5₀ c12₀ start₀ c4 c5 c12 start : List ℕ) (count : ℕ) (sums : Sums) (i p : ℕ) (left : List Payment) : Type 0 where
  pub ends : p + length (write_payments left) ≡ end_at f begin
  pub here : i ≡ first + count
  pub counted : together (totals_of count sums) (totals left) ≡ totals (payments_at f begin)
  pub bank_codes_left : ColumnFrom c4₀ c4 first i (bank_codes left) (bank_codes (payments_at f begin))
  pub accounts_left : ColumnFrom c5₀ c5 first i (accounts left) (accounts (payments_at f begin))
  pub cents_left : ColumnFrom c12₀ c12 first i (cents left) (cents (payments_at f begin))
  pub starts_left : ColumnFrom start₀ start first i (starts_from p left) (starts_in begin (payments_at f begin))

-- rows are written, and what is left stands at p
pub record FileFilling (f : List ℕ) (begin first : ℕ) (c4₀ c5₀ c12₀ start₀ c4 c5 c12 start : List ℕ) (p i count : ℕ) (sums : Sums) : Type 0 where
  pub left : List Payment
  pub coming : Coming f p left
  pub kept : Rows f begin first c4₀ c5₀ c12₀ start₀ c4 c5 c12 start count sums i p left

-- ---- the file

module _ {f : List ℕ} {begin first : ℕ} {columns : List (List ℕ)} (x : Fillable f begin first columns) where
  payments_are : payments_at f begin ≡ x.says.payments
  unfolding payments_read
  payments_are = ap payments_read x.read

  pub rows_are : rows_read (read_at document f begin) ≡ record { count = length x.says.payments; sums = sums_of (totals x.says.payments); next = x.behind }
  unfolding rows_read
  rows_are = ap rows_read x.read

  pub legal : Legal x.says
  legal = (read_legal document Legal write document_says f begin x.behind x.says x.read).0

  bytes : drop begin f ≡ write x.says ++ drop x.behind f
  bytes = (read_legal document Legal write document_says f begin x.behind x.says x.read).1

  pub behind_inside : x.behind ≤ length f
  behind_inside = (read_inside document f begin x.behind x.says x.inside x.read).1

  stands : FileStands f begin x.says
  stands = file_stands f begin x.says legal (drop x.behind f) bytes

  -- behind E the file is over
  pub e_ends : x.behind ≡ end_at f begin + 128
  e_ends =
      let d = x.says in
      let a = write_header d.header in
      let c = write_payments d.payments in
      let e = write_end (totals d.payments) in
      let w = lies_between f (write d) begin x.behind x.inside behind_inside bytes in
      let n = ap (λ ps. length (write_payments ps)) payments_are in
      omega (arith, w, n, length-append a (c ++ (e ++ [])), length-append c (e ++ []), length-append e [], header_length d.header legal.header, end_length (totals d.payments))

  pub file_fill_start : (c4 c5 c12 start : List ℕ) → FileFilling f begin first c4 c5 c12 start c4 c5 c12 start (begin + first_payment) first 0 (sums_of (totals []))
  file_fill_start c4 c5 c12 start =
      let all = payments_at f begin in
      record {
        left = all;
        coming = rw payments_are stands.payments;
        kept = record {
          ends = refl;
          here = omega arith;
          counted = together_none (totals all);
          bank_codes_left = column_from_start c4 first (bank_codes all);
          accounts_left = column_from_start c5 first (accounts all);
          cents_left = column_from_start c12 first (cents all);
          starts_left = column_from_start start first (starts_in begin all);
        };
      }

  -- ---- the letter that stands behind the next length

  -- of a payment where one is left, and else of E
  record Letter (p : ℕ) (left : List Payment) : Type 0 where
    inside : p + place.C2 < length f
    payment : get_or f (p + place.C2) 0 ≡ 0x43 → 0 < length left
    end : get_or f (p + place.C2) 0 ≢ 0x43 → left ≡ []

  letter_of_lem : (p : ℕ) (left : List Payment) → Coming f p left → p + length (write_payments left) ≡ end_at f begin → Letter p left
  letter_of_lem p [] c e =
      let n = ap (λ ps. length (write_payments ps)) payments_are in
      let at-e : begin + first_payment + length (write_payments x.says.payments) ≡ p = omega arith in
      let l = letter_of_end (totals x.says.payments) (subst (λ q. Stand f q (fields_of_end (totals x.says.payments))) at-e stands.end) in
      record { inside = l.0; payment = λ h. absurd (let k = sym h ∙ l.1 in omega arith); end = λ h. refl }
  letter_of_lem p (y ∷ ys) c e =
      let l = letter_of_payment (first_begun c) in
      record { inside = l.0; payment = λ h. omega arith; end = λ h. absurd (h l.1) }

  module _ {c4₀ c5₀ c12₀ start₀ c4 c5 c12 start : List ℕ} {p i count : ℕ} {sums : Sums}
      (w : FileFilling f begin first c4₀ c5₀ c12₀ start₀ c4 c5 c12 start p i count sums) where
    letter : Letter p w.left
    letter = letter_of_lem p w.left w.coming w.kept.ends

    pub letter_inside : p + place.C2 < length f
    letter_inside = letter.inside

    -- ---- one turn

    module _ (h : get_or f (p + place.C2) 0 ≡ 0x43) where
      pub next : Next f (Rows f begin first c4₀ c5₀ c12₀ start₀ c4 c5 c12 start count sums) i p w.left
      next = next_of w.left w.coming w.kept (letter.payment h)

      -- its numbers stand in their fields
      pub here : Row f p next.payment
      here = row next.begun

      -- a row is still to come
      one_more : i < first + length x.says.payments
      one_more =
          let n = ap (λ (t : Totals). t.count) next.kept.counted in
          let m = ap length payments_are in
          let e = next.kept.here in
          omega arith

      module _ {bank account amount : ℕ}
          (b : bank ≡ number (take width.C4 (drop (p + place.C4) f))) (a : account ≡ number (take width.C5 (drop (p + place.C5) f)))
          (m : amount ≡ number (take width.C12 (drop (p + place.C12) f))) where
        -- the totals with this payment, and those of the payments behind it
        more_counted : together (totals_of (count + 1) (plus sums account bank amount)) (totals next.others) ≡ totals (payments_at f begin)
        more_counted =
            let r = here in
            rw (b ∙ r.bank_code.value, a ∙ r.account.value, m ∙ r.cents.value)
            (sym (together_more (totals_of count sums) next.payment next.others) ∙ next.kept.counted)

        -- no sum is over its limit with it, since none is with all payments
        pub sums_within : Within (plus sums account bank amount)
        sums_within =
            let e = more_counted in
            let n = payments_are in
            record {
              accounts = let k = ap (λ (t : Totals). t.accounts) e in let g = ap (λ ps. (totals ps).accounts) n in omega (arith, legal.accounts);
              banks = let k = ap (λ (t : Totals). t.bank_codes) e in let g = ap (λ ps. (totals ps).bank_codes) n in omega (arith, legal.bank_codes);
              cents = let k = ap (λ (t : Totals). t.cents) e in let g = ap (λ ps. (totals ps).cents) n in omega (arith, legal.cents);
            }

        module _ {k step : ℕ} (told : k ≡ parts_at f p) (s : step ≡ 128 * section (min k most_parts)) where
          stepped : step ≡ length (write_payment next.payment)
          stepped = bytes_there next.begun told s

          -- the place goes on, and stays inside
          pub goes_on : (p < p + step) × (p + step ≤ length f)
          goes_on = let e = stepped in let y = next in (omega (arith, some_bytes y.payment), omega (arith, y.inside))

          -- the numbers of the next payment go each into its column, and the place goes on by the bytes that the number of its parts tells
          pub file_fill_more : FileFilling f begin first c4₀ c5₀ c12₀ start₀ (set c4 i bank) (set c5 i account) (set c12 i amount) (set start i p) (p + step) (i + 1)
              (count + 1) (plus sums account bank amount)
          file_fill_more =
              let y = next in
              let r = here in
              let kept = y.kept in
              let size = length-append (write_payment y.payment) (write_payments y.others) in
              record {
                left = y.others;
                coming = rw stepped y.behind;
                kept = record {
                  ends = let e = stepped in let g = kept.ends in omega arith;
                  here = let e = kept.here in omega arith;
                  counted = more_counted;
                  bank_codes_left = column_from_more kept.bank_codes_left (b ∙ r.bank_code.value);
                  accounts_left = column_from_more kept.accounts_left (a ∙ r.account.value);
                  cents_left = column_from_more kept.cents_left (m ∙ r.cents.value);
                  starts_left = rw stepped (column_from_more kept.starts_left refl);
                };
              }

    -- ---- behind the last row

    module _ (h : get_or f (p + place.C2) 0 ≢ 0x43) where
      none_left : w.left ≡ []
      none_left = letter.end h

      pub at_end : p ≡ end_at f begin
      at_end = let n = ap (λ ps. length (write_payments ps)) none_left in let g = w.kept.ends in omega arith

      -- all payments are counted
      all_counted : totals_of count sums ≡ totals x.says.payments
      all_counted =
          sym (together_nothing (totals_of count sums)) ∙ ap (λ ps. together (totals_of count sums) (totals ps)) (sym none_left) ∙ w.kept.counted
          ∙ ap totals payments_are

      pub file_fill_ends : FilledAt f begin first c4₀ c5₀ c12₀ start₀ (record { count = count; sums = sums; next = p + 128 }) c4 c5 c12 start
      file_fill_ends =
          let all = all_counted in
          let kept = w.kept in (
            same_rows (ap (λ (t : Totals). t.count) all) (ap sums_of all) (let e = e_ends in let g = at_end in omega arith) ∙ sym rows_are,
            (
              (rw none_left at kept.bank_codes_left).comes,
              ((rw none_left at kept.accounts_left).comes, ((rw none_left at kept.cents_left).comes, (rw none_left at kept.starts_left).comes)),
            ),
          )

pub row_there : {f c4₀ c5₀ c12₀ start₀ c4 c5 c12 start : List ℕ} {begin first p i count : ℕ} {sums : Sums} (x : Fillable f begin first (c4₀ ∷ c5₀ ∷ c12₀ ∷ start₀ ∷ []))
    → FileFilling f begin first c4₀ c5₀ c12₀ start₀ c4 c5 c12 start p i count sums → get_or f (p + place.C2) 0 ≡ 0x43 → RowThere c4₀ c5₀ c12₀ start₀ c4 c5 c12 start i
row_there {first = first} x w h =
    let k = w.kept in
    row_among (one_more x w h) (has_room (first + length x.says.payments) _ _ _ _ x.room)
    k.bank_codes_left.long k.accounts_left.long k.cents_left.long k.starts_left.long
