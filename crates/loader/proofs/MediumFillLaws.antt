-- The loop that fills columns and table from a medium: one turn writes the rows of the next file and its row of the table, and goes on to the file
-- behind it.
-- The files left stand at p, end to end (`FilesComing`), so the first of them is read there, and the fill of its rows tells what its payments come
-- to and where it ends (`rows_told`). In each of the nine columns the rows still to come make of it what all rows make of the old one: the columns
-- of payments run on by the rows of the file (`column_run`), those of the table by one row (`column_from_more`). Behind the last byte no file is left.
use Prim.Native.Nat.{ℕ, ◌+◌, ◌≤◌, ◌<◌}
use native.Mathlib.Omega.{arith}
use mathlib.Core.Path.{◌≡◌, refl, sym, ap, ◌∙◌}
use mathlib.Core.Bool.{true}
use mathlib.Core.List.{List, [], ◌∷◌, map-append}
use lib.ListN.{length, drop, set, length-append, length-map, length-drop}
use lib.Seq.{sets}
use lib.Dec.{leb, leb→le}
use borrow.Author.Tests.{le-leb}
use Rattle.form.specs.Reader.{accepted}
use Rattle.form.specs.Place.{done, read_at}
use Rattle.form.proofs.BoolLaws.{T_of, and_both, is_true}
use Rattle.form.proofs.FilesLaws.{stands_behind, legal_there}
use Rattle.document.specs.Values.{Payment, Document, totals}
use Rattle.document.specs.Rules.{All, Legal}
use Rattle.document.specs.Medium.{all_payments}
use Rattle.diskette.specs.Writing.{write}
use Rattle.diskette.specs.Fields.{document}
use Rattle.diskette.specs.Medium.{write_medium, medium_answer, files_of}
use Rattle.diskette.proofs.FileSays.{document_says}
use Rattle.diskette.proofs.LayoutLaws.{file_takes}
use Rattle.diskette.proofs.MediumPromises.{takes_a_byte, accepted_exactly, accepted_reading}
use Rattle.layout.specs.Steps.{first_payment}
use Rattle.sums.specs.Sums.{sums_of}
use Rattle.loader.specs.declared.FileRows.{FileRows}
use Rattle.loader.specs.Columns.{bank_codes, accounts, cents, starts_in}
use Rattle.loader.specs.Loading.{have_room}
use Rattle.loader.specs.Filling.{payments_read, rows_read, Fillable}
use Rattle.loader.specs.Medium.{medium_starts, file_starts, file_counts, file_accounts, file_bank_codes, file_cents, MediumFillable}
use Rattle.loader.proofs.ColumnLaws.{Roomy, has_room, ColumnFrom, column_from_start, column_from_more, column_run}
use Rattle.loader.proofs.FillLaws.{length_starts}
use Rattle.loader.proofs.FileFillLaws.{payments_at, FilledAt}

-- ---- room

-- the five columns of a table of at least n rows
pub record TableRoomy (n : ℕ) (a b c d e : List ℕ) : Type 0 where
  pub begin : n ≤ length a
  pub count : n ≤ length b
  pub sum5 : n ≤ length c
  pub sum4 : n ≤ length d
  pub sum12 : n ≤ length e

has_table_room : (n : ℕ) (a b c d e : List ℕ) → have_room n (a ∷ b ∷ c ∷ d ∷ e ∷ []) ≡ true → TableRoomy n a b c d e
has_table_room n a b c d e h =
    let v = and_both (leb n (length a)) _ (T_of h) in
    let w = and_both (leb n (length b)) _ v.1 in
    let x = and_both (leb n (length c)) _ w.1 in
    let y = and_both (leb n (length d)) _ x.1 in
    record {
      begin = leb→le n (length a) v.0;
      count = leb→le n (length b) w.0;
      sum5 = leb→le n (length c) x.0;
      sum4 = leb→le n (length d) y.0;
      sum12 = leb→le n (length e) (and_both (leb n (length e)) _ y.1).0;
    }

-- a row is one of the table, as it was and as it is
pub record TableRowThere (begin₀ count₀ sum5₀ sum4₀ sum12₀ begin count sum5 sum4 sum12 : List ℕ) (file : ℕ) : Type 0 where
  pub was : TableRoomy (file + 1) begin₀ count₀ sum5₀ sum4₀ sum12₀
  pub is : TableRoomy (file + 1) begin count sum5 sum4 sum12

-- all files of the medium
abbrev pub files_in : List ℕ → List Document
files_in f = files_of (medium_answer f)

module _ {f c4 c5 c12 start begin count sum5 sum4 sum12 : List ℕ} (x : MediumFillable f (c4 ∷ c5 ∷ c12 ∷ start ∷ []) (begin ∷ count ∷ sum5 ∷ sum4 ∷ sum12 ∷ [])) where
  files_are : files_in f ≡ x.files
  unfolding files_of
  files_are = ap files_of x.answered

  rooms : (have_room (length (all_payments x.files)) (c4 ∷ c5 ∷ c12 ∷ start ∷ []) ≡ true)
      × (have_room (length x.files) (begin ∷ count ∷ sum5 ∷ sum4 ∷ sum12 ∷ []) ≡ true)
  rooms =
      let columns = have_room (length (all_payments x.files)) (c4 ∷ c5 ∷ c12 ∷ start ∷ []) in
      let table = have_room (length x.files) (begin ∷ count ∷ sum5 ∷ sum4 ∷ sum12 ∷ []) in
      let b = and_both columns table (T_of x.room) in
      (is_true columns b.0, is_true table b.1)

  pub columns_roomy : Roomy (length (all_payments (files_in f))) c4 c5 c12 start
  columns_roomy = rw files_are (has_room (length (all_payments x.files)) c4 c5 c12 start rooms.0)

  pub table_roomy : TableRoomy (length (files_in f)) begin count sum5 sum4 sum12
  table_roomy = rw files_are (has_table_room (length x.files) begin count sum5 sum4 sum12 rooms.1)

-- ---- the files still to come

-- they stand at p end to end, up to the medium's last byte
pub record FilesComing (f : List ℕ) (p : ℕ) (left : List Document) : Type 0 where
  pub inside : p ≤ length f
  pub legal : All Legal left
  pub bytes : drop p f ≡ write_medium left

-- the next of them, and those behind it
pub record NextFile (f : List ℕ) (p : ℕ) (left : List Document) : Type 0 where
  pub says : Document
  pub others : List Document
  pub is : left ≡ says ∷ others
  pub read : read_at document f p ≡ done says (p + length (write says))
  pub some : p < p + length (write says)
  pub behind : FilesComing f (p + length (write says)) others

next_file_of : {f : List ℕ} {p : ℕ} (left : List Document) → FilesComing f p left → p < length f → NextFile f p left
next_file_of {f} {p} [] c h = absurd (omega (arith, length-drop p f, ap length c.bytes))
next_file_of {f} {p} (d ∷ ds) c h =
    let t = legal_there document takes_a_byte Legal write document_says d c.legal.0 f (write_medium ds) p c.inside c.bytes in
    record {
      says = d;
      others = ds;
      is = refl;
      read = t.0;
      some = t.1;
      behind = record { inside = t.2; legal = c.legal.1; bytes = stands_behind f (write d) (write_medium ds) p c.bytes };
    }

no_file_of : {f : List ℕ} {p : ℕ} (left : List Document) → FilesComing f p left → length f ≤ p → left ≡ []
no_file_of [] c h = refl
no_file_of {f} {p} (d ∷ ds) c h =
    absurd (omega (arith, file_takes d c.legal.0, length-drop p f, ap length c.bytes, length-append (write d) (write_medium ds)))

accepted_coming : (f : List ℕ) (ds : List Document) → medium_answer f ≡ accepted ds → FilesComing f 0 (files_in f)
unfolding files_of
accepted_coming f ds e =
    let x = (accepted_exactly f).0 (ds, e) in
    rw (accepted_reading f x) (record { inside = omega arith; legal = x.1.each; bytes = sym x.2 })

-- ---- the loop

-- rows of the columns and of the table are written, and the next file begins at p
pub record MediumFilling (f c4₀ c5₀ c12₀ start₀ begin₀ count₀ sum5₀ sum4₀ sum12₀ c4 c5 c12 start begin count sum5 sum4 sum12 : List ℕ) (p row file : ℕ) : Type 0 where
  pub left : List Document
  pub coming : FilesComing f p left
  pub payments : row + length (all_payments left) ≡ length (all_payments (files_in f))
  pub files : file + length left ≡ length (files_in f)
  pub bank_codes_left : ColumnFrom c4₀ c4 0 row (bank_codes (all_payments left)) (bank_codes (all_payments (files_in f)))
  pub accounts_left : ColumnFrom c5₀ c5 0 row (accounts (all_payments left)) (accounts (all_payments (files_in f)))
  pub cents_left : ColumnFrom c12₀ c12 0 row (cents (all_payments left)) (cents (all_payments (files_in f)))
  pub starts_left : ColumnFrom start₀ start 0 row (medium_starts p left) (medium_starts 0 (files_in f))
  pub file_starts_left : ColumnFrom begin₀ begin 0 file (file_starts p left) (file_starts 0 (files_in f))
  pub file_counts_left : ColumnFrom count₀ count 0 file (file_counts left) (file_counts (files_in f))
  pub file_accounts_left : ColumnFrom sum5₀ sum5 0 file (file_accounts left) (file_accounts (files_in f))
  pub file_bank_codes_left : ColumnFrom sum4₀ sum4 0 file (file_bank_codes left) (file_bank_codes (files_in f))
  pub file_cents_left : ColumnFrom sum12₀ sum12 0 file (file_cents left) (file_cents (files_in f))

pub medium_start : {f c4 c5 c12 start begin count sum5 sum4 sum12 : List ℕ} → MediumFillable f (c4 ∷ c5 ∷ c12 ∷ start ∷ []) (begin ∷ count ∷ sum5 ∷ sum4 ∷ sum12 ∷ [])
    → MediumFilling f c4 c5 c12 start begin count sum5 sum4 sum12 c4 c5 c12 start begin count sum5 sum4 sum12 0 0 0
medium_start {f} {c4} {c5} {c12} {start} {begin} {count} {sum5} {sum4} {sum12} x =
    let all = files_in f in
    record {
      left = all;
      coming = accepted_coming f x.files x.answered;
      payments = omega arith;
      files = omega arith;
      bank_codes_left = column_from_start c4 0 (bank_codes (all_payments all));
      accounts_left = column_from_start c5 0 (accounts (all_payments all));
      cents_left = column_from_start c12 0 (cents (all_payments all));
      starts_left = column_from_start start 0 (medium_starts 0 all);
      file_starts_left = column_from_start begin 0 (file_starts 0 all);
      file_counts_left = column_from_start count 0 (file_counts all);
      file_accounts_left = column_from_start sum5 0 (file_accounts all);
      file_bank_codes_left = column_from_start sum4 0 (file_bank_codes all);
      file_cents_left = column_from_start sum12 0 (file_cents all);
    }

module _ {f c4₀ c5₀ c12₀ start₀ begin₀ count₀ sum5₀ sum4₀ sum12₀ c4 c5 c12 start begin count sum5 sum4 sum12 : List ℕ} {p row file : ℕ}
    (x : MediumFillable f (c4₀ ∷ c5₀ ∷ c12₀ ∷ start₀ ∷ []) (begin₀ ∷ count₀ ∷ sum5₀ ∷ sum4₀ ∷ sum12₀ ∷ []))
    (w : MediumFilling f c4₀ c5₀ c12₀ start₀ begin₀ count₀ sum5₀ sum4₀ sum12₀ c4 c5 c12 start begin count sum5 sum4 sum12 p row file) where
  module _ (h : p < length f) where
    pub next_file : NextFile f p w.left
    next_file = next_file_of w.left w.coming h

    -- the rows behind the file's, and those of the table behind its row
    rows_behind : row + length next_file.says.payments + length (all_payments next_file.others) ≡ length (all_payments (files_in f))
    rows_behind =
        let y = next_file in
        omega (arith, ap (λ ds. length (all_payments ds)) y.is, w.payments, length-append y.says.payments (all_payments y.others))

    files_behind : file + 1 + length next_file.others ≡ length (files_in f)
    files_behind = omega (arith, ap length next_file.is, w.files)

    -- the table has a row for the file
    pub table_row_there : TableRowThere begin₀ count₀ sum5₀ sum4₀ sum12₀ begin count sum5 sum4 sum12 file
    table_row_there =
        let n = files_behind in
        let r = table_roomy x in
        record {
          was = record { begin = omega (arith, r.begin); count = omega (arith, r.count); sum5 = omega (arith, r.sum5); sum4 = omega (arith, r.sum4); sum12 = omega (arith, r.sum12) };
          is = record {
            begin = omega (arith, r.begin, w.file_starts_left.long);
            count = omega (arith, r.count, w.file_counts_left.long);
            sum5 = omega (arith, r.sum5, w.file_accounts_left.long);
            sum4 = omega (arith, r.sum4, w.file_bank_codes_left.long);
            sum12 = omega (arith, r.sum12, w.file_cents_left.long);
          };
        }

    pub may_fill_file : Fillable f p row (c4 ∷ c5 ∷ c12 ∷ start ∷ [])
    may_fill_file =
        let y = next_file in
        let m = columns_roomy x in
        record {
          says = y.says;
          behind = p + length (write y.says);
          inside = w.coming.inside;
          read = y.read;
          room = still_room (row + length y.says.payments) (omega (arith, m.c4, rows_behind, w.bank_codes_left.long))
              (omega (arith, m.c5, rows_behind, w.accounts_left.long)) (omega (arith, m.c12, rows_behind, w.cents_left.long))
              (omega (arith, m.start, rows_behind, w.starts_left.long));
        }
      where
        still_room : (n : ℕ) → n ≤ length c4 → n ≤ length c5 → n ≤ length c12 → n ≤ length start → have_room n (c4 ∷ c5 ∷ c12 ∷ start ∷ []) ≡ true
        still_room n a b c d = rw (le-leb n (length c4) a, le-leb n (length c5) b, le-leb n (length c12) c, le-leb n (length start) d)

    -- what the fill of the file's rows gives back
    rows_told : {r : FileRows} → r ≡ rows_read (read_at document f p)
        → r ≡ record { count = length next_file.says.payments; sums = sums_of (totals next_file.says.payments); next = p + length (write next_file.says) }
    unfolding rows_read
    rows_told e = e ∙ ap rows_read next_file.read

    -- the rows behind it fit, and the place goes on, and stays inside
    pub goes_on : {r : FileRows} → r ≡ rows_read (read_at document f p) → (row + r.count ≤ length c4₀) × (p < r.next) × (r.next ≤ length f)
    goes_on e =
        let y = next_file in
        let count = ap (λ (z : FileRows). z.count) (rows_told e) in
        let next = ap (λ (z : FileRows). z.next) (rows_told e) in
        (omega (arith, count, rows_behind, (columns_roomy x).c4), omega (arith, next, y.some), omega (arith, next, y.behind.inside))

    payments_told_lem : payments_at f p ≡ next_file.says.payments
    unfolding payments_read
    payments_told_lem = ap payments_read next_file.read

    pub medium_more : {r : FileRows} {c4' c5' c12' start' : List ℕ} → FilledAt f p row c4 c5 c12 start r c4' c5' c12' start'
        → MediumFilling f c4₀ c5₀ c12₀ start₀ begin₀ count₀ sum5₀ sum4₀ sum12₀ c4' c5' c12' start' (set begin file p) (set count file r.count) (set sum5 file r.sums.accounts.0)
        (set sum4 file r.sums.banks.0) (set sum12 file r.sums.cents.0) r.next (row + r.count) (file + 1)
    medium_more {r} g =
        let y = next_file in
        let ps = y.says.payments in
        let ds = y.others in
        let e = rows_told g.0 in
        let next : r.next ≡ p + length (write y.says) = ap (λ (z : FileRows). z.next) e in
        let n : r.count ≡ length ps = ap (λ (z : FileRows). z.count) e in
        let k = rw payments_told_lem at g.1 in
        record {
          left = ds;
          coming = rw next y.behind;
          payments = omega (arith, rows_behind, n);
          files = files_behind;
          bank_codes_left =
              rw n (column_run (bank_codes ps) (rw (y.is, map-append (λ (z : Payment). z.bank_code) ps (all_payments ds)) at w.bank_codes_left) k.0
              (length-map ps (λ (z : Payment). z.bank_code)));
          accounts_left =
              rw n (column_run (accounts ps) (rw (y.is, map-append (λ (z : Payment). z.account) ps (all_payments ds)) at w.accounts_left) k.1.0
              (length-map ps (λ (z : Payment). z.account)));
          cents_left =
              rw n (column_run (cents ps) (rw (y.is, map-append (λ (z : Payment). z.cents) ps (all_payments ds)) at w.cents_left) k.1.1.0
              (length-map ps (λ (z : Payment). z.cents)));
          starts_left = rw (n, next) (column_run (starts_in p ps) (rw y.is at w.starts_left) k.1.1.1 (length_starts (p + first_payment) ps));
          file_starts_left = rw next (column_from_more (rw y.is at w.file_starts_left) refl);
          file_counts_left = column_from_more (rw y.is at w.file_counts_left) n;
          file_accounts_left = column_from_more (rw y.is at w.file_accounts_left) (ap (λ (z : FileRows). z.sums.accounts.0) e);
          file_bank_codes_left = column_from_more (rw y.is at w.file_bank_codes_left) (ap (λ (z : FileRows). z.sums.banks.0) e);
          file_cents_left = column_from_more (rw y.is at w.file_cents_left) (ap (λ (z : FileRows). z.sums.cents.0) e);
        }

-- ---- behind the last file

-- what a fill of the medium ensures of the nine columns
abbrev pub MediumSet : List Document → List ℕ → List ℕ → List ℕ → List ℕ → List ℕ → List ℕ → List ℕ → List ℕ → List ℕ → List ℕ → List ℕ → List ℕ → List ℕ → List ℕ → List ℕ → List ℕ → List ℕ → List ℕ → Type 0
MediumSet all c4 c5 c12 start begin count sum5 sum4 sum12 c4' c5' c12' start' begin' count' sum5' sum4' sum12' =
    let ps = all_payments all in
    (c4' ≡ sets c4 0 (bank_codes ps)) × ((c5' ≡ sets c5 0 (accounts ps)) × ((c12' ≡ sets c12 0 (cents ps)) × ((start' ≡ sets start 0 (medium_starts 0 all))
    × ((begin' ≡ sets begin 0 (file_starts 0 all)) × ((count' ≡ sets count 0 (file_counts all)) × ((sum5' ≡ sets sum5 0 (file_accounts all))
    × ((sum4' ≡ sets sum4 0 (file_bank_codes all)) × (sum12' ≡ sets sum12 0 (file_cents all)))))))))

module _ {f c4₀ c5₀ c12₀ start₀ begin₀ count₀ sum5₀ sum4₀ sum12₀ c4 c5 c12 start begin count sum5 sum4 sum12 : List ℕ} {p row file : ℕ}
    (w : MediumFilling f c4₀ c5₀ c12₀ start₀ begin₀ count₀ sum5₀ sum4₀ sum12₀ c4 c5 c12 start begin count sum5 sum4 sum12 p row file) (h : length f ≤ p) where
  none_left : w.left ≡ []
  none_left = no_file_of w.left w.coming h

  pub medium_ends : MediumSet (files_in f) c4₀ c5₀ c12₀ start₀ begin₀ count₀ sum5₀ sum4₀ sum12₀ c4 c5 c12 start begin count sum5 sum4 sum12
  medium_ends = (
    (rw none_left at w.bank_codes_left).comes,
    (
      (rw none_left at w.accounts_left).comes,
      (
        (rw none_left at w.cents_left).comes,
        (
          (rw none_left at w.starts_left).comes,
          (
            (rw none_left at w.file_starts_left).comes,
            (
              (rw none_left at w.file_counts_left).comes,
              (
                (rw none_left at w.file_accounts_left).comes,
                ((rw none_left at w.file_bank_codes_left).comes, (rw none_left at w.file_cents_left).comes),
              ),
            ),
          ),
        ),
      ),
    ),
  )
