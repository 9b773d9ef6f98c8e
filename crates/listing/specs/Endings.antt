-- How a call ends that writes into a lent output: with bytes, or with a refusal and no byte.
use Rattle.std.specs.Prelude.{ℕ, cond, List, [], length, leb}
use Rattle.form.specs.Reader.{Answer, accepted, refused}
use Rattle.verdict.specs.declared.Verdict.{Verdict}
use Rattle.verdict.specs.Verdicts.{refusing, refused_as}
use Rattle.document.specs.Values.{Document}
use Rattle.diskette.specs.Writing.{write}
use Rattle.diskette.specs.Fields.{Name}
use Rattle.listing.specs.Listing.{listing}
use Rattle.listing.specs.Composing.{Composed, made, denied}

pub data Ending : Type 0 where
  writes : List ℕ → Ending
  refuses : Verdict → Ending

-- the listing of a file, or the file's refusal
unfoldable pub listed : Answer Name Document → Ending
listed (accepted d) = writes (listing d)
listed (refused r) = refuses (refused_as r)

-- the file of a listing, or the listing's refusal
unfoldable pub composed : Composed Document → Ending
composed (made d) = writes (write d)
composed (denied v) = refuses v

-- an ending with more bytes than the output has room for is 16 at 0
unfoldable pub within : ℕ → Ending → Ending
within room (writes bs) = cond (leb (length bs) room) (writes bs) (refuses (refusing 16 0))
within room (refuses v) = refuses v

-- the bytes that a call writes; a refused call writes none
abbrev pub written : Ending → List ℕ
written (writes bs) = bs
written (refuses v) = []
