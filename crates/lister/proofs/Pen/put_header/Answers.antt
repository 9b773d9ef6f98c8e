use Rattle.lister.proofs.PrintingLaws.{field_may, field_printed, line_start, end_may, line_ends}
use Rattle.lister.proofs.Pen.put_header.Goals as goal

pub loop-i-init : goal.loop-i-init
loop-i-init c = line_start _ _ _ _ c.requires.0 c.requires.1 c.letter.ensures c.put.ensures

pub put_field-requires : goal.put_field-requires
put_field-requires c = field_may c.loop-i.invariant c.loop-i-test.true

pub loop-i-preserved : goal.loop-i-preserved
loop-i-preserved c = field_printed c.loop-i.invariant c.loop-i-test.true c.put_field.ensures

pub put-requires-2 : goal.put-requires-2
put-requires-2 c = end_may c.loop-i.invariant c.loop-i-test.false

pub returns : goal.returns
returns c = line_ends c.loop-i.invariant c.loop-i-test.false c.put-2.ensures
