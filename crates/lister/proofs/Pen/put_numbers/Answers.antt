use Prim.Native.Nat.{◌+◌}
use native.Mathlib.Omega.{arith}
use mathlib.Core.Path.{◌≡◌}
use mathlib.Core.Bool.{false}
use mathlib.Core.List.{[], ◌∷◌}
use Rattle.listing.specs.Lines.{tab}
use Rattle.listing.specs.Records.{numbers_of_payment_line}
use Rattle.lister.specs.Printing.{printed_field}
use Rattle.lister.proofs.PrintLaws.{going_more, going_done, numbers_from, numbers_more}
use Rattle.lister.proofs.Pen.put_numbers.Goals as goal

pub loop-i-preserved : goal.loop-i-preserved
loop-i-preserved c =
    let a = c.args in
    let i = c.loop-i.i in
    going_more c.loop-i.invariant (tab ∷ printed_field false i a.s.now a.p) (i + 1) (numbers_more a.s.now a.p i c.loop-i-test.true) c.put_number.ensures

pub returns : goal.returns
returns c =
    let e : c.loop-i.i ≡ numbers_of_payment_line = omega arith in
    let none : numbers_from c.args.s.now c.args.p c.loop-i.i ≡ [] = rw e in
    going_done c.loop-i.invariant none
