-- composer::line::ends_in_blank meets its contract: the last byte tells.
use native.Mathlib.Omega.{arith}
use Rattle.composer.proofs.ByteLaws.{blank_last}
use Rattle.composer.proofs.line.ends_in_blank.Goals as goal

pub returns : goal.returns
returns c = blank_last c.args.t.now (omega arith)
