use Rattle.std.proofs.Common.{arith}
use Rattle.fields.proofs.StretchLaws.{flag_more, flag_end, same_more, same_end}
use Rattle.fields.proofs.same_bytes.Goals as goal

pub loop-i-preserved : goal.loop-i-preserved
loop-i-preserved c = flag_more _ c.loop-i.invariant (same_more c.args.want.now c.args.f.now c.loop-i.i (omega arith) (omega arith))

pub returns : goal.returns
returns c = flag_end c.loop-i.invariant (same_end c.args.want.now c.args.f.now c.loop-i.i (omega arith) (omega arith))
