-- Worked loads of a medium: case M, and behind it a file of two payments, into columns of four rows and a table of three; and where there is no room.
use Rattle.std.specs.Prelude.{ℕ, ◌≡◌, refl, List, [], ◌∷◌, ◌++◌}
use Rattle.form.specs.Place.{look_at, read_at}
use Rattle.form.specs.Files.{files_at, run_files}
use Rattle.verdict.specs.Verdicts.{accepting}
use Rattle.verdict.specs.Lent.{filled}
use Rattle.document.specs.Medium.{all_payments}
use Rattle.diskette.specs.Cases.{file_m, put, given}
use Rattle.diskette.specs.Medium.{medium_answer, files_of, MediumOutcome, medium_outcome}
use Rattle.medium.specs.Checking.{medium_checked_of}
use Rattle.loader.specs.Columns.{bank_codes, accounts, cents}
use Rattle.loader.specs.Medium.{medium_starts, file_starts, file_counts, file_accounts, file_bank_codes, file_cents, no_medium_room, medium_loading, files_loaded}
use Rattle.loader.specs.Example as file

abbrev pub medium : List ℕ
medium = file_m ++ file.file

abbrev pub four : List ℕ
four = 1 ∷ 2 ∷ 3 ∷ 4 ∷ []

abbrev pub three : List ℕ
three = 5 ∷ 6 ∷ 7 ∷ []

abbrev pub columns : List (List ℕ)
columns = four ∷ four ∷ four ∷ four ∷ []

abbrev pub table : List (List ℕ)
table = three ∷ three ∷ three ∷ three ∷ three ∷ []

abbrev pub accepted : MediumOutcome
accepted = record { verdict = accepting; files = 2; payments = 3 }

pub loads : medium_loading columns table (medium_answer medium) ≡ accepted
unfolding medium_loading medium_outcome medium_answer run_files files_at read_at look_at given
loads = refl

-- the columns run on through both files, with starts from the medium's first byte; their fourth row is as it was
pub rows_written : let ds = files_loaded (medium_checked_of accepted) medium in let ps = all_payments ds in
    (filled (bank_codes ps) four ∷ filled (accounts ps) four ∷ filled (cents ps) four ∷ filled (medium_starts 0 ds) four ∷ [])
    ≡ ((30_050_020 ∷ 30_050_020 ∷ 20_050_010 ∷ 4 ∷ [])
    ∷ (7_654_321 ∷ 7_654_321 ∷ 5 ∷ 4 ∷ [])
    ∷ (12_345 ∷ 12_345 ∷ 1 ∷ 4 ∷ [])
    ∷ (128 ∷ 640 ∷ 1_024 ∷ 4 ∷ [])
    ∷ [])
unfolding files_of medium_answer run_files files_at read_at look_at given
rows_written = refl

-- the table has a row for each file, with the file's own count and totals; its third row is as it was
pub table_written : let ds = files_loaded (medium_checked_of accepted) medium in
    (filled (file_starts 0 ds) three ∷ filled (file_counts ds) three ∷ filled (file_accounts ds) three ∷ filled (file_bank_codes ds) three ∷ filled (file_cents ds) three ∷ [])
    ≡ ((0 ∷ 512 ∷ 7 ∷ []) ∷ (1 ∷ 2 ∷ 7 ∷ []) ∷ (7_654_321 ∷ 7_654_326 ∷ 7 ∷ []) ∷ (30_050_020 ∷ 50_100_030 ∷ 7 ∷ []) ∷ (12_345 ∷ 12_346 ∷ 7 ∷ []) ∷ [])
unfolding files_of medium_answer run_files files_at read_at look_at given
table_written = refl

-- one row in the table's last column, and three files' worth elsewhere: no room
pub no_room : medium_loading columns (three ∷ three ∷ three ∷ three ∷ (5 ∷ []) ∷ []) (medium_answer medium) ≡ no_medium_room
unfolding medium_loading medium_outcome medium_answer run_files files_at read_at look_at given
no_room = refl

-- but a fault of the second file comes ahead of a table without rows
pub fault_first : (medium_loading columns ([] ∷ [] ∷ [] ∷ [] ∷ [] ∷ []) (medium_answer (file_m ++ put 394 "0000002" file_m))).verdict.number ≡ 14
unfolding medium_loading medium_outcome medium_answer run_files files_at read_at look_at given
fault_first = refl
