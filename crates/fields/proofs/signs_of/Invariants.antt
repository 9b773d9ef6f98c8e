-- fields::signs_of meets its contract: two flags go through both halves of the text together.
use Rattle.std.proofs.Common.{eqb}
use Rattle.document.specs.Signs.{sign}
use Rattle.fields.proofs.StretchLaws.{Flag, Halves}
use Rattle.fields.proofs.signs_of.Given as goal

abbrev pub invariant-loop-i : goal.invariant-loop-i
invariant-loop-i l = Flag (Halves sign l.f) l.permitted l.i × Flag (Halves (λ b. eqb b 0x20) l.f) l.blank l.i
