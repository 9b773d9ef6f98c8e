use Prim.Native.Nat.{◌≤◌}
use native.Mathlib.Omega.{arith}
use mathlib.Core.Path.{refl}
use Rattle.document.specs.Marks.{most_parts}
use Rattle.layout.proofs.StepLaws.{pass_start, pass_inside, pass_on}
use Rattle.lister.proofs.ListingLaws.{a_lies, row_on, still_coming, next_few, next_lies}
use Rattle.lister.proofs.LoopLaws.{measure_start, measure_more, measure_room, measure_ends}
use Rattle.lister.proofs.listing_length.Goals as goal

pub line_length-total-requires : goal.line_length-total-requires
line_length-total-requires c = a_lies _ _ c.requires

pub loop-row-init : goal.loop-row-init
loop-row-init c = measure_start c.requires (pass_start _ _ refl) c.line_length-total.ensures

pub overflow_mul-k : goal.overflow_mul-k
overflow_mul-k c =
    let few : c.count_at-k.result ≤ most_parts = next_few c.loop-row.invariant.standing c.loop-row-test.true c.count_at-k.ensures in
    let f = few in omega arith

pub overflow_add-k : goal.overflow_add-k
overflow_add-k c =
    let few : c.count_at-k.result ≤ most_parts = next_few c.loop-row.invariant.standing c.loop-row-test.true c.count_at-k.ensures in
    let f = few in omega arith

pub line_length-total-requires-in-loop-row : goal.line_length-total-requires-in-loop-row
line_length-total-requires-in-loop-row c = next_lies c.loop-row.invariant.standing c.loop-row-test.true c.count_at-k.ensures

pub overflow_add-total : goal.overflow_add-total
overflow_add-total c =
    omega (arith, measure_room c.loop-row.invariant c.loop-row-test.true c.count_at-k.ensures c.line_length-total-in-loop-row.ensures)

pub overflow_add-p : goal.overflow_add-p
overflow_add-p c =
    let s = c.loop-row.invariant.standing in
    omega (arith, pass_inside s.passing (still_coming s c.loop-row-test.true) c.count_at-k.ensures c.bytes_of-p.ensures)

pub loop-row-preserved : goal.loop-row-preserved
loop-row-preserved c =
    let h = c.loop-row-test.true in
    let told = c.count_at-k.ensures in
    let s = c.loop-row.invariant in
    measure_more s h told c.line_length-total-in-loop-row.ensures
    (pass_on s.standing.passing (still_coming s.standing h) told c.bytes_of-p.ensures (row_on s.standing))

pub returns : goal.returns
returns c = measure_ends c.loop-row.invariant c.loop-row-test.false
