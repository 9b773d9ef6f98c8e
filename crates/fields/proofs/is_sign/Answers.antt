-- fields::is_sign meets its contract: its ranges are the permitted signs, tried for every byte.
use Rattle.std.proofs.Common.{arith}
use Rattle.fields.proofs.SignLaws.{ranges_are_signs}
use Rattle.fields.proofs.is_sign.Goals as goal

pub returns : goal.returns
returns c = ranges_are_signs c.args.b (omega arith)
