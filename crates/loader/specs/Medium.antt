-- Loading a medium: the columns of payments run on through all of its files, and a table has a row for each file.
use Rattle.std.specs.Prelude.{ℕ, ◌+◌, ◌≡◌, Bool, true, false, ◌&&◌, List, [], ◌∷◌, ◌++◌, map, length}
use Rattle.form.specs.Reader.{Answer, accepted, refused}
use Rattle.verdict.specs.Verdicts.{refusing, is_accepted}
use Rattle.document.specs.Values.{Document, totals}
use Rattle.document.specs.Medium.{all_payments}
use Rattle.diskette.specs.Writing.{write}
use Rattle.diskette.specs.Fields.{Name}
use Rattle.diskette.specs.Medium.{medium_answer, files_of, MediumOutcome, medium_outcome}
use Rattle.medium.specs.declared.MediumChecked.{MediumChecked}
use Rattle.loader.specs.Columns.{starts_in}
use Rattle.loader.specs.Loading.{have_room}

-- ---- the columns

-- where the payments begin of files that are written out one after another, the first at p
abbrev pub medium_starts : ℕ → List Document → List ℕ
medium_starts p [] = []
medium_starts p (d ∷ ds) = starts_in p d.payments ++ medium_starts (p + length (write d)) ds

-- ---- the table: where each file begins, and what its payments come to, in the order of E

abbrev pub file_starts : ℕ → List Document → List ℕ
file_starts p [] = []
file_starts p (d ∷ ds) = p ∷ file_starts (p + length (write d)) ds

abbrev pub file_counts : List Document → List ℕ
file_counts ds = map (λ (d : Document). (totals d.payments).count) ds

abbrev pub file_accounts : List Document → List ℕ
file_accounts ds = map (λ (d : Document). (totals d.payments).accounts) ds

abbrev pub file_bank_codes : List Document → List ℕ
file_bank_codes ds = map (λ (d : Document). (totals d.payments).bank_codes) ds

abbrev pub file_cents : List Document → List ℕ
file_cents ds = map (λ (d : Document). (totals d.payments).cents) ds

-- ---- how a load ends

-- each column has room for the payments of all files, and the table for the files
abbrev pub medium_room : List (List ℕ) → List (List ℕ) → List Document → Bool
medium_room columns table ds = have_room (length (all_payments ds)) columns && have_room (length ds) table

abbrev pub no_medium_room : MediumOutcome
no_medium_room = record { verdict = refusing 16 0; files = 0; payments = 0 }

abbrev pub if_medium_room : Bool → MediumOutcome → MediumOutcome
if_medium_room true o = o
if_medium_room false o = no_medium_room

-- the medium's refusal; then 16 at 0 where a column or the table is too short; then the figures of the medium
unfoldable pub medium_loading : List (List ℕ) → List (List ℕ) → Answer Name (List Document) → MediumOutcome
medium_loading columns table (refused r) = medium_outcome (refused r)
medium_loading columns table (accepted ds) = if_medium_room (medium_room columns table ds) (medium_outcome (accepted ds))

abbrev pub if_medium_loaded : Bool → List Document → List Document
if_medium_loaded true ds = ds
if_medium_loaded false ds = []

-- the files that a load of the medium writes into columns and table: all of them where it accepts, else none
abbrev pub files_loaded : MediumChecked → List ℕ → List Document
files_loaded r medium = if_medium_loaded (is_accepted r.verdict) (files_of (medium_answer medium))

-- ---- before rows are written

-- the medium is accepted, and there is room for all of it
pub record MediumFillable (f : List ℕ) (columns table : List (List ℕ)) : Type 0 where
  pub files : List Document
  pub answered : medium_answer f ≡ accepted files
  pub room : medium_room columns table files ≡ true
