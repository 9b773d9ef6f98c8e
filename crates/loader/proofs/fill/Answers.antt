use native.Mathlib.Omega.{arith}
use borrow.Author.Rules.{rules}
use Rattle.layout.proofs.StepLaws.{pass_inside}
use Rattle.loader.proofs.ColumnLaws.{has_room}
use Rattle.loader.proofs.FillLaws.{fill_start, here, row_there, fill_more, fill_ends}
use Rattle.loader.proofs.fill.Goals as goal

pub loop-row-init : goal.loop-row-init
loop-row-init c = fill_start _ _ _ _ _

pub overflow_add-p : goal.overflow_add-p
overflow_add-p c = let r = (here c.loop-row.invariant (omega arith)).bank_code in omega (arith, r.inside)

pub known_number-bank_code-requires : goal.known_number-bank_code-requires
known_number-bank_code-requires c = let r = (here c.loop-row.invariant (omega arith)).bank_code in (r.inside, (omega arith, r.digits))

pub overflow_add-p-in-loop-row : goal.overflow_add-p-in-loop-row
overflow_add-p-in-loop-row c = let r = (here c.loop-row.invariant (omega arith)).account in omega (arith, r.inside)

pub known_number-account-requires : goal.known_number-account-requires
known_number-account-requires c = let r = (here c.loop-row.invariant (omega arith)).account in (r.inside, (omega arith, r.digits))

pub overflow_add-p-in-loop-row-2 : goal.overflow_add-p-in-loop-row-2
overflow_add-p-in-loop-row-2 c = let r = (here c.loop-row.invariant (omega arith)).cents in omega (arith, r.inside)

pub known_number-amount-requires : goal.known_number-amount-requires
known_number-amount-requires c = let r = (here c.loop-row.invariant (omega arith)).cents in (r.inside, (omega arith, r.digits))

pub offset_bounds-c4-row : goal.offset_bounds-c4-row
offset_bounds-c4-row c = let r = (row_there c.loop-row.invariant c.loop-row-test.true c.requires.1).was.c4 in search rules

pub bounds-c4-row : goal.bounds-c4-row
bounds-c4-row c = let r = (row_there c.loop-row.invariant c.loop-row-test.true c.requires.1).is.c4 in omega arith

pub offset_bounds-c5-row : goal.offset_bounds-c5-row
offset_bounds-c5-row c = let r = (row_there c.loop-row.invariant c.loop-row-test.true c.requires.1).was.c5 in search rules

pub bounds-c5-row : goal.bounds-c5-row
bounds-c5-row c = let r = (row_there c.loop-row.invariant c.loop-row-test.true c.requires.1).is.c5 in omega arith

pub offset_bounds-c12-row : goal.offset_bounds-c12-row
offset_bounds-c12-row c = let r = (row_there c.loop-row.invariant c.loop-row-test.true c.requires.1).was.c12 in search rules

pub bounds-c12-row : goal.bounds-c12-row
bounds-c12-row c = let r = (row_there c.loop-row.invariant c.loop-row-test.true c.requires.1).is.c12 in omega arith

pub offset_bounds-start-row : goal.offset_bounds-start-row
offset_bounds-start-row c = let r = (row_there c.loop-row.invariant c.loop-row-test.true c.requires.1).was.start in search rules

pub bounds-start-row : goal.bounds-start-row
bounds-start-row c = let r = (row_there c.loop-row.invariant c.loop-row-test.true c.requires.1).is.start in omega arith

pub overflow_add-p-in-loop-row-3 : goal.overflow_add-p-in-loop-row-3
overflow_add-p-in-loop-row-3 c = omega (arith, pass_inside c.loop-row.invariant (omega arith) c.count_at-k.ensures c.bytes_of-p.ensures)

pub loop-row-preserved : goal.loop-row-preserved
loop-row-preserved c =
    fill_more c.loop-row.invariant (omega arith) c.known_number-bank_code.ensures c.known_number-account.ensures
    c.known_number-amount.ensures c.count_at-k.ensures c.bytes_of-p.ensures

pub shape_of-c4 : goal.shape_of-c4
shape_of-c4 c = c.loop-row.invariant.kept.bank_codes_left.long

pub shape_of-c5 : goal.shape_of-c5
shape_of-c5 c = c.loop-row.invariant.kept.accounts_left.long

pub shape_of-c12 : goal.shape_of-c12
shape_of-c12 c = c.loop-row.invariant.kept.cents_left.long

pub shape_of-start : goal.shape_of-start
shape_of-start c = c.loop-row.invariant.kept.starts_left.long

pub returns : goal.returns
returns c =
    let room = rw c.requires.0 at c.requires.1 in
    let said = fill_ends c.loop-row.invariant (omega arith) (has_room _ _ _ _ _ room) in record { c4 = said.0; c5 = said.1.0; c12 = said.1.1.0; start = said.1.1.1 }
