-- line_reader::signs_end meets its contract: as far as was looked, all are permitted signs, and the next byte is none or one too many.
use Prim.Native.Nat.{◌+◌, min}
use mathlib.Core.Path.{◌≡◌}
use lib.ListN.{length}
use Rattle.line_reader.proofs.SignsLaws.{Looked}
use Rattle.line_reader.proofs.signs_end.Given as goal

abbrev pub invariant-loop-i : goal.invariant-loop-i
invariant-loop-i l = (l.end ≡ min (length l.l) (l.p + 27)) × Looked l.l l.p l.i
