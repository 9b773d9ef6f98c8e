use native.Mathlib.Omega.{arith}
use Rattle.fields.proofs.DigitLaws.{spelt_none, spelt_room}
use Rattle.loader.proofs.NumberLaws.{long, digit_there, number_more, number_whole}
use Rattle.loader.proofs.known_number.Goals as goal

pub overflow_mul-v : goal.overflow_mul-v
overflow_mul-v c =
    let w = long _ _ _ c.requires.0 c.requires.1.1 in
    let l = c.loop-digit in
    omega (arith, spelt_room _ l.digit-index l.v l.invariant (omega arith))

pub overflow_sub-v : goal.overflow_sub-v
overflow_sub-v c = rw (c.from.ensures, c.from-in-loop-digit.ensures) (digit_there _ _ _ c.requires.0 c.requires.1.1 _ c.loop-digit-test.true).0

pub overflow_add-v : goal.overflow_add-v
overflow_add-v c =
    let w = long _ _ _ c.requires.0 c.requires.1.1 in
    let l = c.loop-digit in
    omega (arith, spelt_room _ l.digit-index l.v l.invariant (omega arith), (digit_there _ _ _ c.requires.0 c.requires.1.1 _ c.loop-digit-test.true).1)

pub loop-digit-init : goal.loop-digit-init
loop-digit-init c = spelt_none _

pub loop-digit-preserved : goal.loop-digit-preserved
loop-digit-preserved c = rw (c.from.ensures, c.from-in-loop-digit.ensures) (number_more _ _ _ c.requires.0 c.requires.1.1 _ c.loop-digit-test.true c.loop-digit.invariant)

pub returns : goal.returns
returns c = number_whole _ _ _ c.requires.0 c.requires.1.1 c.loop-digit.invariant c.loop-digit-test.false
