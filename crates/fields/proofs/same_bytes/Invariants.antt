-- fields::same_bytes meets its contract: the flag, and what the bytes still to come say, say what all bytes say.
use Rattle.fields.proofs.StretchLaws.{Flag, Same}
use Rattle.fields.proofs.same_bytes.Given as goal

abbrev pub invariant-loop-i : goal.invariant-loop-i
invariant-loop-i l = Flag (Same l.want l.f) l.all l.i
