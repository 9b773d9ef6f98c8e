use native.Mathlib.Omega.{arith}
use mathlib.Core.Path.{refl, sym}
use Rattle.layout.proofs.StepLaws.{pass_start, pass_inside, pass_on}
use Rattle.lister.proofs.ListingLaws.{a_lies, row_on, still_coming, next_lies, next_formed}
use Rattle.lister.proofs.LoopLaws.{a_room, list_start, line_room, list_more, list_ends}
use Rattle.lister.proofs.print_listing.Goals as goal

pub put_header-requires : goal.put_header-requires
put_header-requires c = (a_lies _ _ c.requires.0, a_room _ _ c.requires.0 (record { out = c.args.out; at = 0 }) refl c.requires.1)

pub loop-row-init : goal.loop-row-init
loop-row-init c = list_start _ _ c.requires.0 c.put_header.ensures refl c.requires.1 (pass_start _ _ refl)

pub put_payment-requires : goal.put_payment-requires
put_payment-requires c =
    let s = c.loop-row.invariant in
    let h = c.loop-row-test.true in
    let told = c.count_at-k.ensures in
    (next_lies s.standing h told, next_formed s.standing h told, line_room s h told)

pub overflow_add-p : goal.overflow_add-p
overflow_add-p c =
    let s = c.loop-row.invariant.standing in
    omega (arith, pass_inside s.passing (still_coming s c.loop-row-test.true) c.count_at-k.ensures c.bytes_of-p.ensures)

pub loop-row-preserved : goal.loop-row-preserved
loop-row-preserved c =
    let s = c.loop-row.invariant in
    let h = c.loop-row-test.true in
    list_more s h c.count_at-k.ensures c.put_payment.ensures
    (pass_on s.standing.passing (still_coming s.standing h) c.count_at-k.ensures c.bytes_of-p.ensures (row_on s.standing))

pub returns-clause-length : goal.returns-clause-length
returns-clause-length c = (list_ends _ _ c.requires.0 c.put_header.ensures refl c.requires.1 c.loop-row.invariant c.loop-row-test.false).0

pub returns-clause-out : goal.returns-clause-out
returns-clause-out c =
    let all = list_ends _ _ c.requires.0 c.put_header.ensures refl c.requires.1 c.loop-row.invariant c.loop-row-test.false in
    let same = sym all.2 in
    let now = all.1 in
    grind (arith, same, now)
