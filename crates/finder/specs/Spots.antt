-- Where a payment stands, and where a text of it stands: a stretch of the file, or the verdict on it.
use Rattle.std.specs.Prelude.{ℕ, ◌+◌, List, length}
use Rattle.std.proofs.Math.Option.{Option, none, some}
use Rattle.std.proofs.Math.ListN.{get_elem?}
use Rattle.form.specs.Reader.{Answer, accepted, refused}
use Rattle.verdict.specs.declared.Verdict.{Verdict}
use Rattle.verdict.specs.Verdicts.{accepting, refusing}
use Rattle.document.specs.Values.{Payment, Document}
use Rattle.diskette.specs.Fields.{Name}
use Rattle.diskette.specs.Answer.{answer, outcome}
use Rattle.loader.specs.Columns.{starts}
use Rattle.finder.specs.declared.Wanted.{Wanted}
use Rattle.finder.specs.declared.Spot.{Spot}
use Rattle.finder.specs.Texts.{text_of, text_width, place_of, begun_at}

-- no stretch; every refusal has an empty one at 0
abbrev pub nowhere : Verdict → Spot
nowhere v = record { verdict = v; from = 0; to = 0 }

abbrev pub standing : ℕ → ℕ → Spot
standing from to = record { verdict = accepting; from = from; to = to }

-- the file is accepted, but has no such payment, or the payment no such part
abbrev pub no_such : Spot
no_such = nowhere (refusing 19 0)

-- ---- payment n, from 0: from its start to the end of the file

abbrev pub from_start : Option ℕ → ℕ → Spot
from_start none size = no_such
from_start (some p) size = standing p size

-- a refused file is refused as the check refuses it
unfoldable pub finding : Answer Name Document → ℕ → ℕ → Spot
finding (refused r) n size = nowhere (outcome (refused r)).verdict
finding (accepted d) n size = from_start (get_elem? (starts d.payments) n) size

unfoldable pub find_at : List ℕ → ℕ → Spot
find_at file n = finding (answer file) n (length file)

-- ---- a text of the payment that begins at start: all of its bytes

abbrev pub if_text : Option (List ℕ) → ℕ → Spot
if_text none from = no_such
if_text (some t) from = standing from (from + text_width)

abbrev pub if_begun : Option Payment → ℕ → Wanted → Spot
if_begun none start w = no_such
if_begun (some x) start w = if_text (text_of w x) (start + place_of w)

unfoldable pub locating : Answer Name Document → ℕ → Wanted → Spot
locating (refused r) start w = nowhere (outcome (refused r)).verdict
locating (accepted d) start w = if_begun (begun_at start d.payments) start w

unfoldable pub locate_at : List ℕ → ℕ → Wanted → Spot
locate_at file start w = locating (answer file) start w
