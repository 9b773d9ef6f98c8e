-- loader::known_number meets its contract: what was read so far is a number of as many digits.
use Rattle.fields.proofs.DigitLaws.{Spelt}
use Rattle.loader.proofs.known_number.Given as goal

abbrev pub invariant-loop-digit : goal.invariant-loop-digit
invariant-loop-digit l = Spelt l.digit-items l.digit-index l.v
