use Prim.Native.Nat.{◌<◌}
use native.Mathlib.Omega.{arith}
use lib.ListN.{length}
use Rattle.composer.proofs.ByteLaws.{rest_ends, rest_tab, rest_on_lem}
use Rattle.composer.proofs.line.rest_of_line.Goals as goal
use Rattle.composer.proofs.line.rest_of_line.Goals.{else-l-i-eq-TAB, then-l-i-eq-TAB}

pub loop-i-2-preserved : goal.loop-i-2-preserved
loop-i-2-preserved c =
    let inside : c.loop-i-2.i < length c.args.l.now = omega (arith, c.loop-i-2.invariant.0.ahead, c.requires) in
    (rest_on_lem c.loop-i-2.invariant.0 inside (λ e. omega (arith, c.loop-i-2-test.true)) (λ e. omega (arith, c.loop-i-2-test.true)), omega (arith, c.loop-i-2.invariant.1))

pub returns-then-l-i-eq-END : goal.returns-then-l-i-eq-END
returns-then-l-i-eq-END c =
    let inside : c.loop-i-2.i < length c.args.l.now = omega (arith, c.loop-i-2.invariant.0.ahead, c.requires) in
    let said = rest_ends c.loop-i-2.invariant.0 inside c.if-l-i-eq-END.true in record { end = said.0; fields = said.1 }

pub loop-i-preserved : goal.loop-i-preserved
loop-i-preserved c =
    let inside : c.loop-i-2.i < length c.args.l.now = omega (arith, c.loop-i-2.invariant.0.ahead, c.requires) in
    let w = c.loop-i-2.invariant.0 in
    let more = c.if-l-i-eq-END.false in
    elim c.if-l-i-eq-TAB.branch [ then-l-i-eq-TAB u ↦ rw u.fields-is (rest_tab w inside more u.if-l-i-eq-TAB.true) | else-l-i-eq-TAB u ↦ rw u.fields-is (rest_on_lem w inside more u.if-l-i-eq-TAB.false) ]
