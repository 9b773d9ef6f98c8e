-- layout::bytes_of meets its contract: the sections of the rules, the second alone, the sixth as the last, or those between.
use Prim.Native.Nat.{min}
use native.Mathlib.Omega.{arith}
use mathlib.Core.Path.{◌≡◌}
use borrow.Author.Tests.{le-leb, lt-leb}
use Rattle.layout.proofs.bytes_of.Goals as goal

pub returns-then-k-le2 : goal.returns-then-k-le2
returns-then-k-le2 c = let k = c.args.k in let m : min k 15 ≡ k = omega arith in rw (m, le-leb k 2 c.if-k-le2.true)

pub returns-then-k-ge-MOST_PARTS : goal.returns-then-k-ge-MOST_PARTS
returns-then-k-ge-MOST_PARTS c = let k = c.args.k in let m : min k 15 ≡ 15 = omega arith in rw m

pub returns : goal.returns
returns c = let k = c.args.k in let m : min k 15 ≡ k = omega arith in rw (m, lt-leb k 2 c.if-k-le2.false)
