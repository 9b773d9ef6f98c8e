-- How a load ends: what it gives back, and the payments whose rows it writes.
use Rattle.std.specs.Prelude.{ℕ, Bool, true, false, List, [], length, leb}
use Rattle.form.specs.Kind.{every}
use Rattle.form.specs.Reader.{Answer, accepted, refused}
use Rattle.verdict.specs.Verdicts.{refusing, is_accepted}
use Rattle.document.specs.Values.{Payment, Document, no_totals}
use Rattle.diskette.specs.Fields.{Name}
use Rattle.diskette.specs.Answer.{answer, Outcome, outcome, payments_of}
use Rattle.checker.specs.declared.Checked.{Checked}

-- each column has room for so many rows
abbrev pub have_room : ℕ → List (List ℕ) → Bool
have_room n columns = every (λ column. leb n (length column)) columns

abbrev pub no_room : Outcome
no_room = record { verdict = refusing 16 0; totals = no_totals }

abbrev pub if_room : Bool → Outcome → Outcome
if_room true o = o
if_room false o = no_room

-- the file's refusal; then 16 at 0 where a column is shorter than the count; then the figures of the file
unfoldable pub loading : List (List ℕ) → Answer Name Document → Outcome
loading columns (refused r) = outcome (refused r)
loading columns (accepted d) = if_room (have_room (length d.payments) columns) (outcome (accepted d))

abbrev pub if_loaded : Bool → List Payment → List Payment
if_loaded true ps = ps
if_loaded false ps = []

-- the payments that a load of the file writes into the columns: all of them where it accepts, else none
abbrev pub rows : Checked → List ℕ → List Payment
rows r file = if_loaded (is_accepted r.verdict) (payments_of (answer file))
