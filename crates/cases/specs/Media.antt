-- Media on both sides of each line of the request: what may follow a file, and faults in a second file. One list, one claim.
use Rattle.std.specs.Prelude.{ℕ, ◌≡◌, refl, List, [], ◌∷◌, ◌++◌, map, take}
use Prim.Native.String.{String}
use Rattle.form.specs.Place.{look_at, read_at}
use Rattle.form.specs.Files.{files_at, run_files}
use Rattle.document.specs.Signs.{ascii}
use Rattle.diskette.specs.Cases.{payment_m, end_m, file_m, put, given}
use Rattle.diskette.specs.Medium.{medium_answer, medium_outcome}

-- a medium, and what it is given: number, place, files, payments
pub record MediumCase : Type 0 where
  pub medium : List ℕ
  pub number : ℕ
  pub place : ℕ
  pub files : ℕ
  pub payments : ℕ

-- what the rules give a case
abbrev pub figures : MediumCase → List ℕ
figures c = let o = medium_outcome (medium_answer c.medium) in o.verdict.number ∷ o.verdict.place ∷ o.files ∷ o.payments ∷ []

abbrev pub wanted_figures : MediumCase → List ℕ
wanted_figures c = c.number ∷ c.place ∷ c.files ∷ c.payments ∷ []

abbrev refused : ℕ → ℕ → List ℕ → MediumCase
refused number place medium = record { medium = medium; number = number; place = place; files = 0; payments = 0 }

abbrev accepted : ℕ → ℕ → List ℕ → MediumCase
accepted files payments medium = record { medium = medium; number = 0; place = 0; files = files; payments = payments }

-- M, and a second M with these bytes from that place on
abbrev second : ℕ → String → List ℕ
second n word = file_m ++ put n word file_m

unfoldable pub media : List MediumCase
media =
    -- no file, one, two
    refused 1 0 []
    ∷ accepted 1 1 file_m
    ∷ accepted 2 2 (file_m ++ file_m)
    -- what follows an E is the next A1
    ∷ refused 1 512 (file_m ++ ascii "012")
    ∷ refused 1 512 (file_m ++ (0x0A ∷ []))
    ∷ refused 2 516 (file_m ++ ascii "0128E")
    ∷ refused 2 512 (file_m ++ ascii "XXXX")
    ∷ refused 2 512 (file_m ++ payment_m)
    ∷ refused 2 516 (file_m ++ end_m)
    ∷ refused 1 1024 (file_m ++ file_m ++ ascii "X")
    ∷ refused 1 795 (file_m ++ take 300 file_m)
    -- keys go by the kind of their own file: debits of a bank behind credits of a customer
    ∷ accepted 2 2 (file_m ++ put 5 "LB" (put 172 "05" (put 174 "015" file_m)))
    ∷ refused 12 684 (file_m ++ put 5 "LB" file_m)
    -- the second file has a fault: its place, moved by the first
    ∷ refused 23 607 (second 95 "31032004")
    ∷ refused 11 653 (second 141 "9")
    ∷ refused 4 733 (second 221 "m")
    ∷ refused 14 906 (second 394 "0000002")
    -- and so has the first, which comes before
    ∷ refused 14 394 (put 394 "0000002" file_m ++ put 141 "9" file_m)
    ∷ []

pub media_hold : map figures media ≡ map wanted_figures media
unfolding media medium_outcome medium_answer run_files files_at read_at look_at given
media_hold = refl
