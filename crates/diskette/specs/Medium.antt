-- A medium of files in the diskette form: how it is written out and which media are acceptable; the answer to a medium, and the figures that a
-- result gives.
use Rattle.std.specs.Prelude.{ℕ, ◌≡◌, List, [], ◌++◌, length}
use Rattle.form.specs.Reader.{Answer, accepted, refused}
use Rattle.form.specs.Files.{write_each, run_files}
use Rattle.verdict.specs.declared.Verdict.{Verdict}
use Rattle.verdict.specs.Verdicts.{accepting, refused_as}
use Rattle.document.specs.Values.{Document}
use Rattle.document.specs.Medium.{LegalMedium, all_payments}
use Rattle.diskette.specs.Writing.{write}
use Rattle.diskette.specs.Fields.{Name, document}

-- ---- written out. Nothing here reads

-- its files end to end, with nothing between them
abbrev pub write_medium : List Document → List ℕ
write_medium ds = write_each write ds

-- a medium is acceptable when it is a sequence of legal documents written out
abbrev pub AcceptableMedium : List ℕ → Type 0
AcceptableMedium f = (ds : List Document) × LegalMedium ds × (write_medium ds ≡ f)

-- bytes with which some acceptable medium begins
abbrev pub BeginMedium : List ℕ → Type 0
BeginMedium bs = (rest : List ℕ) × AcceptableMedium (bs ++ rest)

-- ---- the answer

-- file by file over the fields of a file, with places from the medium's start
unfoldable pub medium_answer : List ℕ → Answer Name (List Document)
medium_answer f = run_files document f

-- the files of an answer; a refused medium has none
unfoldable pub files_of : Answer Name (List Document) → List Document
files_of (accepted ds) = ds
files_of (refused r) = []

-- what is given back: the verdict, the number of files, and that of all their payments; no totals
pub record MediumOutcome : Type 0 where
  pub verdict : Verdict
  pub files : ℕ
  pub payments : ℕ

-- a refused medium has no figures
unfoldable pub medium_outcome : Answer Name (List Document) → MediumOutcome
medium_outcome (accepted ds) = record { verdict = accepting; files = length ds; payments = length (all_payments ds) }
medium_outcome (refused r) = record { verdict = refused_as r; files = 0; payments = 0 }
