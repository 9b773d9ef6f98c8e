-- fields::all_are meets its contract: the flag, and what the bytes still to come say, say what all bytes say.
use Rattle.std.proofs.Common.{eqb}
use Rattle.fields.proofs.StretchLaws.{Flag, Every}
use Rattle.fields.proofs.all_are.Given as goal

abbrev pub invariant-loop-x : goal.invariant-loop-x
invariant-loop-x l = Flag (Every (λ x. eqb x l.b) l.f) l.all l.x-index
