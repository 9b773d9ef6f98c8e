-- The rows of one accepted file that stands somewhere in a medium: what has to be so before they are written, and what they come to.
use Rattle.std.specs.Prelude.{ℕ, ◌+◌, ◌≤◌, ◌<◌, ◌≡◌, true, List, [], length}
use Rattle.form.specs.Place.{Read, done, halt, read_at}
use Rattle.document.specs.Values.{Payment, Document, no_totals, totals}
use Rattle.document.specs.Rules.{most_cents, sum_limit}
use Rattle.diskette.specs.Fields.{Name, document}
use Rattle.sums.specs.declared.Sums.{Sums}
use Rattle.sums.specs.Sums.{sums_of}
use Rattle.loader.specs.declared.FileRows.{FileRows}
use Rattle.loader.specs.Loading.{have_room}

-- ---- sums

-- the numbers of one payment more, each with its own sum
abbrev pub plus : Sums → ℕ → ℕ → ℕ → Sums
plus t account code amount =
    record { accounts = record { 0 = t.accounts.0 + account }; banks = record { 0 = t.banks.0 + code }; cents = record { 0 = t.cents.0 + amount } }

-- no sum is over its limit
pub record Within (t : Sums) : Type 0 where
  pub accounts : t.accounts.0 < sum_limit
  pub banks : t.banks.0 < sum_limit
  pub cents : t.cents.0 ≤ most_cents

-- ---- a file that was read

unfoldable pub payments_read : Read Name Document → List Payment
payments_read (done d q) = d.payments
payments_read (halt r) = []

-- what its payments come to, and the place behind its E
unfoldable pub rows_read : Read Name Document → FileRows
rows_read (done d q) = record { count = (totals d.payments).count; sums = sums_of (totals d.payments); next = q }
rows_read (halt r) = record { count = 0; sums = sums_of no_totals; next = 0 }

-- a file stands at `begin`, and each column has room for its payments from the row on
pub record Fillable (f : List ℕ) (begin row : ℕ) (columns : List (List ℕ)) : Type 0 where
  pub says : Document
  pub behind : ℕ
  pub inside : begin ≤ length f
  pub read : read_at document f begin ≡ done says behind
  pub room : have_room (row + length says.payments) columns ≡ true
