use Rattle.std.proofs.Common.{eqb}
use Rattle.fields.proofs.StretchLaws.{flag_more, flag_end, every_more, every_end}
use Rattle.fields.proofs.all_are.Goals as goal

pub loop-x-preserved : goal.loop-x-preserved
loop-x-preserved c = flag_more _ c.loop-x.invariant (every_more (λ x. eqb x c.args.b) _ _ c.loop-x-test.true)

pub returns : goal.returns
returns c = flag_end c.loop-x.invariant (every_end (λ x. eqb x c.args.b) _ _ c.loop-x-test.false)
