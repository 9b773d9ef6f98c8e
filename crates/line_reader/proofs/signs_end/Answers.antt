use native.Mathlib.Omega.{arith}
use mathlib.Core.Path.{sym, ◌∙◌}
use borrow.Author.Tests.{not-true, not-false}
use Rattle.line_reader.proofs.SignsLaws.{looked_more, looked_stop, looked_end}
use Rattle.line_reader.proofs.signs_end.Goals as goal

pub returns-then-not-is_sign : goal.returns-then-not-is_sign
returns-then-not-is_sign c =
    let k = c.loop-i in
    looked_stop k.invariant.1 (omega arith) (sym c.is_sign.ensures ∙ not-true _ c.if-not-is_sign.true-raw)

pub loop-i-preserved : goal.loop-i-preserved
loop-i-preserved c =
    let k = c.loop-i in
    (k.invariant.0, looked_more k.invariant.1 (omega arith) (omega arith) (sym c.is_sign.ensures ∙ not-false _ c.if-not-is_sign.false-raw))

pub returns : goal.returns
returns c = let k = c.loop-i in omega (arith, looked_end k.invariant.1 (omega arith))
