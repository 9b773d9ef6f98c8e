use native.Mathlib.Omega.{arith}
use borrow.Author.Rules.{rules}
use Rattle.loader.proofs.FileFillLaws.{behind_inside, e_ends, file_fill_start, letter_inside, here, row_there, sums_within, goes_on, file_fill_more, at_end, file_fill_ends}
use Rattle.loader.proofs.fill_file.Goals as goal

pub overflow_add-p : goal.overflow_add-p
overflow_add-p c = let x = c.requires in omega (arith, e_ends x, behind_inside x)

pub loop-p-init : goal.loop-p-init
loop-p-init c = file_fill_start c.requires _ _ _ _

pub overflow_add-p-in-loop-p : goal.overflow_add-p-in-loop-p
overflow_add-p-in-loop-p c = let h = letter_inside c.requires c.loop-p.invariant in omega arith

pub bounds-s-p : goal.bounds-s-p
bounds-s-p c = letter_inside c.requires c.loop-p.invariant

pub overflow_add-p-in-loop-p-2 : goal.overflow_add-p-in-loop-p-2
overflow_add-p-in-loop-p-2 c = let r = (here c.requires c.loop-p.invariant c.loop-p-test.true).bank_code in omega (arith, r.inside)

pub known_number-bank_code-requires : goal.known_number-bank_code-requires
known_number-bank_code-requires c = let r = (here c.requires c.loop-p.invariant c.loop-p-test.true).bank_code in (r.inside, (omega arith, r.digits))

pub overflow_add-p-in-loop-p-3 : goal.overflow_add-p-in-loop-p-3
overflow_add-p-in-loop-p-3 c = let r = (here c.requires c.loop-p.invariant c.loop-p-test.true).account in omega (arith, r.inside)

pub known_number-account-requires : goal.known_number-account-requires
known_number-account-requires c = let r = (here c.requires c.loop-p.invariant c.loop-p-test.true).account in (r.inside, (omega arith, r.digits))

pub overflow_add-p-in-loop-p-4 : goal.overflow_add-p-in-loop-p-4
overflow_add-p-in-loop-p-4 c = let r = (here c.requires c.loop-p.invariant c.loop-p-test.true).cents in omega (arith, r.inside)

pub known_number-amount-requires : goal.known_number-amount-requires
known_number-amount-requires c = let r = (here c.requires c.loop-p.invariant c.loop-p-test.true).cents in (r.inside, (omega arith, r.digits))

pub offset_bounds-c4-i : goal.offset_bounds-c4-i
offset_bounds-c4-i c = let r = (row_there c.requires c.loop-p.invariant c.loop-p-test.true).was.c4 in search rules

pub bounds-c4-i : goal.bounds-c4-i
bounds-c4-i c = let r = (row_there c.requires c.loop-p.invariant c.loop-p-test.true).is.c4 in omega arith

pub offset_bounds-c5-i : goal.offset_bounds-c5-i
offset_bounds-c5-i c = let r = (row_there c.requires c.loop-p.invariant c.loop-p-test.true).was.c5 in search rules

pub bounds-c5-i : goal.bounds-c5-i
bounds-c5-i c = let r = (row_there c.requires c.loop-p.invariant c.loop-p-test.true).is.c5 in omega arith

pub offset_bounds-c12-i : goal.offset_bounds-c12-i
offset_bounds-c12-i c = let r = (row_there c.requires c.loop-p.invariant c.loop-p-test.true).was.c12 in search rules

pub bounds-c12-i : goal.bounds-c12-i
bounds-c12-i c = let r = (row_there c.requires c.loop-p.invariant c.loop-p-test.true).is.c12 in omega arith

pub offset_bounds-start-i : goal.offset_bounds-start-i
offset_bounds-start-i c = let r = (row_there c.requires c.loop-p.invariant c.loop-p-test.true).was.start in search rules

pub bounds-start-i : goal.bounds-start-i
bounds-start-i c = let r = (row_there c.requires c.loop-p.invariant c.loop-p-test.true).is.start in omega arith

pub plus_payment-sums-requires : goal.plus_payment-sums-requires
plus_payment-sums-requires c =
    sums_within c.requires c.loop-p.invariant c.loop-p-test.true c.known_number-bank_code.ensures
    c.known_number-account.ensures c.known_number-amount.ensures

pub overflow_add-p-in-loop-p-5 : goal.overflow_add-p-in-loop-p-5
overflow_add-p-in-loop-p-5 c =
    omega (arith, (goes_on c.requires c.loop-p.invariant c.loop-p-test.true c.known_number-bank_code.ensures c.known_number-account.ensures c.known_number-amount.ensures c.count_at-k.ensures c.bytes_of-p.ensures).1)

pub overflow_add-i : goal.overflow_add-i
overflow_add-i c = omega (arith, (row_there c.requires c.loop-p.invariant c.loop-p-test.true).was.c4, c.well_formed.1.0.1)

pub overflow_add-count : goal.overflow_add-count
overflow_add-count c = omega (arith, (row_there c.requires c.loop-p.invariant c.loop-p-test.true).was.c4, c.well_formed.1.0.1, c.loop-p.invariant.kept.here)

pub loop-p-smaller : goal.loop-p-smaller
loop-p-smaller c =
    let on = goes_on c.requires c.loop-p.invariant c.loop-p-test.true c.known_number-bank_code.ensures c.known_number-account.ensures c.known_number-amount.ensures c.count_at-k.ensures c.bytes_of-p.ensures in
    omega (arith, on.0, on.1)

pub loop-p-preserved : goal.loop-p-preserved
loop-p-preserved c =
    rw c.plus_payment-sums.ensures
    (file_fill_more c.requires c.loop-p.invariant c.loop-p-test.true c.known_number-bank_code.ensures
    c.known_number-account.ensures c.known_number-amount.ensures c.count_at-k.ensures c.bytes_of-p.ensures)

pub overflow_add-result : goal.overflow_add-result
overflow_add-result c =
    let x = c.requires in
    omega (arith, at_end x c.loop-p.invariant c.loop-p-test.false, e_ends x, behind_inside x)

pub shape_of-c4 : goal.shape_of-c4
shape_of-c4 c = c.loop-p.invariant.kept.bank_codes_left.long

pub shape_of-c5 : goal.shape_of-c5
shape_of-c5 c = c.loop-p.invariant.kept.accounts_left.long

pub shape_of-c12 : goal.shape_of-c12
shape_of-c12 c = c.loop-p.invariant.kept.cents_left.long

pub shape_of-start : goal.shape_of-start
shape_of-start c = c.loop-p.invariant.kept.starts_left.long

pub returns : goal.returns
returns c =
    let said = file_fill_ends c.requires c.loop-p.invariant c.loop-p-test.false in record { answer = said.0; c4 = said.1.0; c5 = said.1.1.0; c12 = said.1.1.1.0; start = said.1.1.1.1 }
