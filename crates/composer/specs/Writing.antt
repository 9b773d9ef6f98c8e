-- What private functions go by, and no public promise cites: those that write rely on a listing that has been accepted, and on room.
use Rattle.std.specs.Prelude.{ℕ, ◌+◌, ◌^◌, ◌≤◌, ◌<◌, ◌≡◌, Bool, List, [], length, take, drop}
use Rattle.document.specs.Values.{Payment, Document, Totals, totals}
use Rattle.diskette.specs.Writing.{write, write_payments}
use Rattle.listing.specs.Lines.{tab, line_end, split}
use Rattle.listing.specs.Records.{cells, lay}
use Rattle.listing.specs.Composing.{Composed, made, denied, compose}
use Rattle.layout.specs.Widths as width
use Rattle.layout.specs.Cells.{record_of, cells_of}
use Rattle.line_reader.specs.Reaching.{reach}
use Rattle.composer.specs.Telling.{FormedLine, behind_letter}

-- the line x tells the n fields of A, or of a C of k parts; `out` has what is the record's own and the first i fields; field i stands at q of x
pub record Layable (head : Bool) (k n : ℕ) (x out : List ℕ) (i q : ℕ) : Type 0 where
  pub line : FormedLine head n x
  pub cells : cells 0 (record_of head k) ≡ take n (cells_of head)
  pub left : i < n
  pub inside : q ≤ length x
  pub here : split tab (drop q x) ≡ drop i (behind_letter (split tab x))
  pub laid : out ≡ lay (record_of head k) (take i (behind_letter (split tab x)))

-- each figure has room in E
pub record Writable (t : Totals) : Type 0 where
  pub count : t.count < 10 ^ width.E4
  pub accounts : t.accounts < 10 ^ width.E6
  pub bank_codes : t.bank_codes < 10 ^ width.E7
  pub cents : t.cents < 10 ^ width.E8

-- the payments that a listing tells
unfoldable pub composed_payments : Composed Document → List Payment
composed_payments (made d) = d.payments
composed_payments (denied v) = []

-- a listing of so many payments has been accepted, their lines begin at `start`, and there is room for A and for them
pub record AcceptedListing (l : List ℕ) (start n size : ℕ) : Type 0 where
  pub document : Document
  pub told : compose l ≡ made document
  pub begins : start ≡ reach line_end l + 1
  pub count : n ≡ (totals document.payments).count
  pub room : 128 + length (write_payments document.payments) ≤ size

-- a listing whose payments come to t has been accepted, and there is room for the file
pub record Ready (l : List ℕ) (t : Totals) (size : ℕ) : Type 0 where
  pub document : Document
  pub told : compose l ≡ made document
  pub totals : t ≡ totals document.payments
  pub room : length (write document) ≤ size
