-- Worked loads: case M; a file of two payments, the first with three parts, into columns of three rows, and where one column is too short.
use Rattle.std.specs.Prelude.{ℕ, ◌≡◌, refl, List, [], ◌∷◌, take}
use Rattle.form.specs.Kind.{blanks}
use Rattle.document.specs.Signs.{ascii}
use Rattle.diskette.specs.Writing.{in_turn}
use Rattle.verdict.specs.Verdicts.{accepting}
use Rattle.verdict.specs.Lent.{filled}
use Rattle.diskette.specs.Answer.{answer, Outcome, outcome, payments_of}
use Rattle.diskette.specs.Cases.{padded, header_m, payment_m, end_m, file_m, put, given}
use Rattle.checker.specs.Checking.{checked_of}
use Rattle.loader.specs.Columns.{bank_codes, accounts, cents, starts}
use Rattle.loader.specs.Loading.{no_room, loading, rows}

-- ---- case M, into columns of two rows, and where the last has none

abbrev pub two : List ℕ
two = 1 ∷ 2 ∷ []

pub loads_m : loading (two ∷ two ∷ two ∷ two ∷ []) (answer file_m) ≡ outcome (answer file_m)
unfolding loading given
loads_m = refl

pub row_m : let ps = payments_of (answer file_m) in
    (filled (bank_codes ps) two ∷ filled (accounts ps) two ∷ filled (cents ps) two ∷ filled (starts ps) two ∷ [])
    ≡ ((30_050_020 ∷ 2 ∷ []) ∷ (7_654_321 ∷ 2 ∷ []) ∷ (12_345 ∷ 2 ∷ []) ∷ (128 ∷ 2 ∷ []) ∷ [])
unfolding payments_of given
row_m = refl

pub no_room_m : loading (two ∷ two ∷ two ∷ [] ∷ []) (answer file_m) ≡ no_room
unfolding loading given
no_room_m = refl

-- ---- two payments

-- case M's payment with three parts: the third stands in a section of its own
abbrev pub longer : List ℕ
longer =
    in_turn (
    take 187 (put 0 "0274" (put 185 "03" payment_m))
    ∷ ascii "02"
    ∷ padded "KUNDE 4"
    ∷ ascii "02"
    ∷ padded "KUNDE 5"
    ∷ blanks 11
    ∷ ascii "02"
    ∷ padded "KUNDE 6"
    ∷ blanks 99
    ∷ []
    )

abbrev pub file : List ℕ
file =
    in_turn (
    header_m
    ∷ longer
    ∷ put 13 "20050010" (put 21 "0000000005" (put 79 "00000000001" payment_m))
    ∷ put 10 "0000002" (put 30 "00000000007654326" (put 47 "00000000050100030" (put 64 "0000000012346" end_m)))
    ∷ []
    )

abbrev pub old : List ℕ
old = 1 ∷ 2 ∷ 3 ∷ []

abbrev pub accepted : Outcome
accepted = record { verdict = accepting; totals = record { count = 2; accounts = 7_654_326; bank_codes = 50_100_030; cents = 12_346 } }

pub loads : loading (old ∷ old ∷ old ∷ old ∷ []) (answer file) ≡ accepted
unfolding loading given
loads = refl

-- each column with its two rows, and its third as it was
pub rows_written : let ps = rows (checked_of accepted) file in
    (filled (bank_codes ps) old ∷ filled (accounts ps) old ∷ filled (cents ps) old ∷ filled (starts ps) old ∷ [])
    ≡ ((30_050_020 ∷ 20_050_010 ∷ 3 ∷ []) ∷ (7_654_321 ∷ 5 ∷ 3 ∷ []) ∷ (12_345 ∷ 1 ∷ 3 ∷ []) ∷ (128 ∷ 512 ∷ 3 ∷ []) ∷ [])
unfolding payments_of given
rows_written = refl

-- two payments, and one row in the last column: no room, and then nothing is written
pub no_room_lem : loading (old ∷ old ∷ old ∷ (1 ∷ []) ∷ []) (answer file) ≡ no_room
unfolding loading given
no_room_lem = refl

pub nothing_written : filled (starts (rows (checked_of no_room) file)) old ≡ old
nothing_written = refl
