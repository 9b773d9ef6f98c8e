-- fields::digits_of meets its contract: what was read so far is a number of as many digits.
use Rattle.fields.proofs.DigitLaws.{Spelt}
use Rattle.fields.proofs.digits_of.Given as goal

abbrev pub invariant-loop-b : goal.invariant-loop-b
invariant-loop-b l = Spelt l.f l.b-index l.v
