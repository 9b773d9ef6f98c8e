-- An accepted file, line by line: what is listed of it before a payment, and the line of the next one.
-- The listing is that of the one reading: the line of A, and the lines of the payments, which part at every row (`listing_parted`, by induction
-- over the payments). A loop over the payments has `Standing`: `row` payments are passed, those from that row on are still to come, and the
-- first of them stands at p. What is printed at p is then the next line of the listing (`line_more`, by `payment_line_lem`), and behind the last
-- payment all is listed (`stand_ends`). No line is longer than its record, so the listing is no longer than the file (`listing_short`).
use Prim.Native.Nat.{ℕ, zero, suc, ◌+◌, ◌≤◌, ◌<◌}
use native.Mathlib.Numerals.{add-one}
use native.Mathlib.Omega.{arith}
use mathlib.Core.Path.{◌≡◌, refl, sym, ap, ap₂, ◌∙◌}
use mathlib.Core.Bool.{true, false}
use mathlib.Core.List.{List, [], ◌∷◌, ◌++◌, append_assoc, append-nil}
use lib.ListN.{length, take, drop, length-append}
use lib.Seq.{drop-drop}
use Rattle.document.specs.Values.{Payment, Document, totals}
use Rattle.document.specs.Rules.{All, LegalPayment}
use Rattle.document.specs.Marks.{most_parts}
use Rattle.diskette.specs.Writing.{write_header, write_payment, write_payments, write_end, write, Acceptable}
use Rattle.diskette.specs.Answer.{answer, payments_of}
use Rattle.diskette.proofs.Promises.{accepted_reading, zero_exactly, payments_counted}
use Rattle.listing.specs.Listing.{header_line, payment_line, payment_lines, listing}
use Rattle.listing.specs.Records.{fields_of_header_line, fields_with}
use Rattle.listing.specs.Endings.{writes, listed, written}
use Rattle.layout.specs.Steps.{parts_at}
use Rattle.layout.proofs.StandLaws.{Stand}
use Rattle.layout.proofs.StepLaws.{Keeping, Passing, Onward, Next, next, none_left}
use Rattle.lister.specs.Printing.{line_at, Lies, Formed, AcceptedFile}
use Rattle.lister.proofs.RecordLaws.{header_lies, header_line_lem, header_short}
use Rattle.lister.proofs.RecordLaws.{payment_few, payment_lies, payment_fields_formed, payment_line_lem, payment_short}

-- ---- the lines of payments

payments_short : (kind : List ℕ) (ps : List Payment) → All (LegalPayment kind) ps → length (payment_lines ps) ≤ length (write_payments ps)
payments_short kind [] a = omega arith
payments_short kind (q ∷ qs) a =
    let l = length-append (payment_line q) (payment_lines qs) in
    let w = length-append (write_payment q) (write_payments qs) in
    omega (arith, payment_short q a.0, payments_short kind qs a.1)

-- the lines of payments are those of the first `row`, and then those of the others
lines_parted : (row : ℕ) (ps : List Payment) → payment_lines ps ≡ payment_lines (take row ps) ++ payment_lines (drop row ps)
lines_parted zero ps = refl
lines_parted (suc row) [] = refl
lines_parted (suc row) (q ∷ qs) =
    ap (λ bs. payment_line q ++ bs) (lines_parted row qs) ∙ sym (append_assoc (payment_line q) (payment_lines (take row qs)) (payment_lines (drop row qs)))

-- the lines of one payment more end in its line
lines_more : (row : ℕ) (ps : List Payment) (x : Payment) (xs : List Payment) → x ∷ xs ≡ drop row ps
    → payment_lines (take (suc row) ps) ≡ payment_lines (take row ps) ++ payment_line x
lines_more zero ps x xs e = ap (λ l. payment_lines (take 1 l)) (sym e) ∙ append-nil (payment_line x)
lines_more (suc row) [] x xs e = absurd (let z = ap length e in omega arith)
lines_more (suc row) (q ∷ qs) x xs e =
    ap (λ bs. payment_line q ++ bs) (lines_more row qs x xs e) ∙ sym (append_assoc (payment_line q) (payment_lines (take row qs)) (payment_line x))

-- ---- the file

-- an acceptable file is listed as its document
pub listed_as : (f : List ℕ) (x : Acceptable f) → listed (answer f) ≡ writes (listing x.0)
unfolding listed
listed_as f x = rw (accepted_reading f x)

-- the bytes of a file's listing
abbrev pub listing_of : List ℕ → List ℕ
listing_of f = written (listed (answer f))

-- the line of A, and the lines of the payments before this row
abbrev pub line_of_a : List ℕ → List ℕ
line_of_a f = line_at true fields_of_header_line f 0

abbrev pub lines_to : List ℕ → ℕ → List ℕ
lines_to f row = payment_lines (take row (payments_of (answer f)))

module _ (n : ℕ) (f : List ℕ) (a : AcceptedFile n f) where
  abbrev found : Acceptable f
  found = (zero_exactly f).0 a.0

  abbrev d : Document
  d = found.0

  payments_are : payments_of (answer f) ≡ d.payments
  unfolding payments_of
  payments_are = rw (accepted_reading f found)

  all_counted : n ≡ length (payments_of (answer f))
  all_counted = a.1 ∙ payments_counted (answer f)

  starts_with_a : Stand f 0 (write_header d.header ∷ write_payments d.payments ∷ write_end (totals d.payments) ∷ [])
  starts_with_a = record { rest = []; bytes = sym found.2 ∙ sym (append-nil (write d)) }

  pub a_lies : Lies true fields_of_header_line f 0
  a_lies = header_lies d.header found.1.header starts_with_a

  listing_is : listing_of f ≡ listing d
  listing_is = ap written (listed_as f found)

  -- the listing is no longer than the file
  pub listing_short : length (listing_of f) ≤ length f
  listing_short =
      let ends = write_end (totals d.payments) ++ [] in
      let e = ap length listing_is ∙ length-append (header_line d.header) (payment_lines d.payments) in
      let w = ap length (sym found.2) ∙ length-append (write_header d.header) (write_payments d.payments ++ ends) in
      let b = length-append (write_payments d.payments) ends in
      let a = header_short d.header found.1.header in
      let c = payments_short d.header.file_kind d.payments found.1.payments in
      omega arith

  -- the listing is the line of A, the lines before this row, and those from it on
  listing_parted : (row : ℕ) → listing_of f ≡ line_of_a f ++ (lines_to f row ++ payment_lines (drop row (payments_of (answer f))))
  listing_parted row =
      listing_is
      ∙ ap₂ (λ bs ps. bs ++ payment_lines ps) (sym (header_line_lem d.header found.1.header starts_with_a)) (sym payments_are)
      ∙ ap (λ bs. line_of_a f ++ bs) (lines_parted row (payments_of (answer f)))

  -- what is listed before this row is no longer than the whole listing
  pub done_within : (row : ℕ) → length (line_of_a f) + length (lines_to f row) ≤ length (listing_of f)
  done_within row =
      let rest = payment_lines (drop row (payments_of (answer f))) in
      let l = length-append (line_of_a f) (lines_to f row ++ rest) in
      omega (arith, ap length (listing_parted row), length-append (lines_to f row) rest)

-- ---- from one line to the next

-- the payments still to come are those from this row on
abbrev pub FromRow : List ℕ → Keeping
FromRow f row p left = left ≡ drop row (payments_of (answer f))

-- the file is accepted, with n payments; `row` of them are passed, the next stands at p
pub record Standing (f : List ℕ) (n p row : ℕ) : Type 0 where
  pub accepted : AcceptedFile n f
  pub passing : Passing f (FromRow f) row p

module _ {f : List ℕ} {n p row : ℕ} (s : Standing f n p row) where
  -- a payment passed is a row passed
  pub row_on : Onward f row p (FromRow f)
  row_on x xs b k = ap (drop 1) k ∙ drop-drop 1 row (payments_of (answer f))

  -- behind the last payment all is listed
  pub stand_ends : n ≤ row → listing_of f ≡ line_of_a f ++ lines_to f row
  stand_ends h =
      let c = all_counted n f s.accepted in
      let none : drop row (payments_of (answer f)) ≡ [] = sym s.passing.kept ∙ none_left s.passing (omega arith) in
      listing_parted n f s.accepted row
      ∙ ap (λ ps. line_of_a f ++ (lines_to f row ++ payment_lines ps)) none
      ∙ ap (λ bs. line_of_a f ++ bs) (append-nil (lines_to f row))

  module _ (h : row < n) where
    pub still_coming : row < length (payments_of (answer f))
    still_coming = let c = all_counted n f s.accepted in omega arith

    -- the payment of the next line
    here : Next f (FromRow f) row p s.passing.left
    here = next s.passing still_coming

    -- k is the number of parts that C18 of the next payment tells
    module _ {k : ℕ} (told : k ≡ parts_at f p) where
      pub next_few : k ≤ most_parts
      next_few = payment_few here.begun told

      pub next_lies : Lies false (fields_with k) f p
      next_lies = payment_lies here.begun told here.inside

      pub next_formed : Formed false (fields_with k) f p
      next_formed = payment_fields_formed here.begun told

      -- the next line of the listing is that of the payment at p
      pub line_more : lines_to f (row + 1) ≡ lines_to f row ++ line_at false (fields_with k) f p
      line_more =
          let x = here in
          ap (λ i. lines_to f i) (add-one row)
          ∙ lines_more row (payments_of (answer f)) x.payment x.others x.kept
          ∙ ap (λ bs. lines_to f row ++ bs) (sym (payment_line_lem x.begun told))
