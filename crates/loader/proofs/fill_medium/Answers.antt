use native.Mathlib.Omega.{arith}
use Rattle.loader.proofs.MediumFillLaws.{medium_start, table_row_there, may_fill_file, goes_on, medium_more, medium_ends}
use Rattle.loader.proofs.fill_medium.Goals as goal

pub loop-p-init : goal.loop-p-init
loop-p-init c = medium_start c.requires

pub fill_file-rows-requires : goal.fill_file-rows-requires
fill_file-rows-requires c = may_fill_file c.requires c.loop-p.invariant c.loop-p-test.true

pub offset_bounds-begin-file : goal.offset_bounds-begin-file
offset_bounds-begin-file c = omega (arith, (table_row_there c.requires c.loop-p.invariant c.loop-p-test.true).was.begin, c.well_formed.1.1.1.1.1.0.1)

pub bounds-begin-file : goal.bounds-begin-file
bounds-begin-file c = let r = (table_row_there c.requires c.loop-p.invariant c.loop-p-test.true).is.begin in omega arith

pub offset_bounds-count-file : goal.offset_bounds-count-file
offset_bounds-count-file c = omega (arith, (table_row_there c.requires c.loop-p.invariant c.loop-p-test.true).was.count, c.well_formed.1.1.1.1.1.1.0.1)

pub bounds-count-file : goal.bounds-count-file
bounds-count-file c = let r = (table_row_there c.requires c.loop-p.invariant c.loop-p-test.true).is.count in omega arith

pub offset_bounds-sum5-file : goal.offset_bounds-sum5-file
offset_bounds-sum5-file c = omega (arith, (table_row_there c.requires c.loop-p.invariant c.loop-p-test.true).was.sum5, c.well_formed.1.1.1.1.1.1.1.0.1)

pub bounds-sum5-file : goal.bounds-sum5-file
bounds-sum5-file c = let r = (table_row_there c.requires c.loop-p.invariant c.loop-p-test.true).is.sum5 in omega arith

pub offset_bounds-sum4-file : goal.offset_bounds-sum4-file
offset_bounds-sum4-file c = omega (arith, (table_row_there c.requires c.loop-p.invariant c.loop-p-test.true).was.sum4, c.well_formed.1.1.1.1.1.1.1.1.0.1)

pub bounds-sum4-file : goal.bounds-sum4-file
bounds-sum4-file c = let r = (table_row_there c.requires c.loop-p.invariant c.loop-p-test.true).is.sum4 in omega arith

pub offset_bounds-sum12-file : goal.offset_bounds-sum12-file
offset_bounds-sum12-file c = omega (arith, (table_row_there c.requires c.loop-p.invariant c.loop-p-test.true).was.sum12, c.well_formed.1.1.1.1.1.1.1.1.1.0.1)

pub bounds-sum12-file : goal.bounds-sum12-file
bounds-sum12-file c = let r = (table_row_there c.requires c.loop-p.invariant c.loop-p-test.true).is.sum12 in omega arith

pub overflow_add-row : goal.overflow_add-row
overflow_add-row c = omega (arith, (goes_on c.requires c.loop-p.invariant c.loop-p-test.true c.fill_file-rows.ensures.answer).0, c.well_formed.1.0.1)

pub overflow_add-file : goal.overflow_add-file
overflow_add-file c = omega (arith, (table_row_there c.requires c.loop-p.invariant c.loop-p-test.true).was.begin, c.well_formed.1.1.1.1.1.0.1)

pub loop-p-smaller : goal.loop-p-smaller
loop-p-smaller c = let on = goes_on c.requires c.loop-p.invariant c.loop-p-test.true c.fill_file-rows.ensures.answer in omega (arith, on.1, on.2)

pub loop-p-preserved : goal.loop-p-preserved
loop-p-preserved c = medium_more c.requires c.loop-p.invariant c.loop-p-test.true (c.fill_file-rows.ensures.answer, (c.fill_file-rows.ensures.c4, (c.fill_file-rows.ensures.c5, (c.fill_file-rows.ensures.c12, c.fill_file-rows.ensures.start))))

pub shape_of-c4 : goal.shape_of-c4
shape_of-c4 c = c.loop-p.invariant.bank_codes_left.long

pub shape_of-c5 : goal.shape_of-c5
shape_of-c5 c = c.loop-p.invariant.accounts_left.long

pub shape_of-c12 : goal.shape_of-c12
shape_of-c12 c = c.loop-p.invariant.cents_left.long

pub shape_of-start : goal.shape_of-start
shape_of-start c = c.loop-p.invariant.starts_left.long

pub shape_of-begin : goal.shape_of-begin
shape_of-begin c = c.loop-p.invariant.file_starts_left.long

pub shape_of-count : goal.shape_of-count
shape_of-count c = c.loop-p.invariant.file_counts_left.long

pub shape_of-sum5 : goal.shape_of-sum5
shape_of-sum5 c = c.loop-p.invariant.file_accounts_left.long

pub shape_of-sum4 : goal.shape_of-sum4
shape_of-sum4 c = c.loop-p.invariant.file_bank_codes_left.long

pub shape_of-sum12 : goal.shape_of-sum12
shape_of-sum12 c = c.loop-p.invariant.file_cents_left.long

pub returns : goal.returns
returns c =
    let said = medium_ends c.loop-p.invariant c.loop-p-test.false in record { c4 = said.0; c5 = said.1.0; c12 = said.1.1.0; start = said.1.1.1.0; begin = said.1.1.1.1.0; count = said.1.1.1.1.1.0; sum5 = said.1.1.1.1.1.1.0; sum4 = said.1.1.1.1.1.1.1.0; sum12 = said.1.1.1.1.1.1.1.1 }
