use native.Mathlib.Numerals.{add-one}
use native.Mathlib.Omega.{arith}
use Rattle.line_reader.proofs.ReachLaws.{reach_here, reach_on, reach_end}
use Rattle.line_reader.proofs.reaching.reach_near.Goals as goal

pub returns-then-s-i : goal.returns-then-s-i
returns-then-s-i c =
    let a = c.args in
    omega (arith, reach_here a.z a.s.now c.loop-i.i (omega arith) c.if-s-i.true)

pub loop-i-preserved : goal.loop-i-preserved
loop-i-preserved c =
    let a = c.args in
    rw add-one (omega (arith, reach_on a.z a.s.now c.loop-i.i (omega arith) c.if-s-i.false))

pub returns : goal.returns
returns c =
    let a = c.args in
    grind (arith, c.max.ensures, reach_end a.z a.s.now c.loop-i.i (omega arith), reach_end a.z a.s.now a.p)
