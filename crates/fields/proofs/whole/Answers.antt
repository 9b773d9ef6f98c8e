-- fields::whole meets its contract: each way out is one comparison of lengths.
use Rattle.std.proofs.Common.{◌+◌, ◌-◌, sym, arith}
use borrow.Author.Tests.{lt-leb}
use Rattle.fields.proofs.LeafLaws.{leb_leb}
use Rattle.fields.proofs.whole.Goals as goal

pub returns-then-len-w : goal.returns-then-len-w
returns-then-len-w c = let a = c.args in sym (lt-leb (a.p + a.w) a.len (omega arith))

pub returns : goal.returns
returns c = let a = c.args in leb_leb a.p (a.len - a.w) (a.p + a.w) a.len (λ h. omega arith) (λ h. omega arith)
