use native.Mathlib.Omega.{arith}
use mathlib.Core.Path.{◌≡◌, subst}
use mathlib.Core.Bool.{false}
use Rattle.listing.specs.Records.{fields_of_payment_line, fields_with}
use Rattle.lister.proofs.PrintingLaws.{Printing, line_start, numbers_may, numbers_printed, field_may, field_printed, part_may, part_printed, end_may, line_ends}
use Rattle.lister.proofs.Pen.put_payment.Goals as goal

pub put_numbers-requires : goal.put_numbers-requires
put_numbers-requires c = numbers_may c.args.k (line_start _ _ _ _ c.requires.0 c.requires.2 c.letter.ensures c.put.ensures) c.requires.1

pub loop-i-init : goal.loop-i-init
loop-i-init c = numbers_printed c.args.k (line_start _ _ _ _ c.requires.0 c.requires.2 c.letter.ensures c.put.ensures) c.put_numbers.ensures

pub put_field-requires : goal.put_field-requires
put_field-requires c = field_may c.loop-i.invariant (omega arith)

pub loop-i-preserved : goal.loop-i-preserved
loop-i-preserved c = field_printed c.loop-i.invariant (omega arith) c.put_field.ensures

pub loop-part-init : goal.loop-part-init
loop-part-init c =
    let a = c.args in
    let l = c.loop-i in
    let e : c.loop-i.i ≡ fields_of_payment_line = omega arith in
    subst (Printing false (fields_with a.k) a.s.now a.p a.self.now l.self) e l.invariant

pub put_part-requires : goal.put_part-requires
put_part-requires c = part_may c.args.k c.loop-part.part c.loop-part.invariant c.loop-part-test.true c.requires.1

pub loop-part-preserved : goal.loop-part-preserved
loop-part-preserved c = part_printed c.args.k c.loop-part.part c.loop-part.invariant c.loop-part-test.true c.put_part.ensures

pub put-requires-2 : goal.put-requires-2
put-requires-2 c = end_may c.loop-part.invariant (omega arith)

pub returns : goal.returns
returns c = line_ends c.loop-part.invariant (omega arith) c.put-2.ensures
