-- composer::read_listing meets its contract: the line of A, then the lines of the payments.
use native.Mathlib.Omega.{arith}
use mathlib.Core.Path.{refl, sym}
use lib.Seq.{length-take-le}
use Rattle.std.proofs.lemmas.Result.{err_from_is_err_and}
use Rattle.composer.proofs.FirstLineLaws.{first_inside, listing_none, listing_cut, first_within, listing_refused, listing_read}
use Rattle.composer.proofs.read_listing.Goals as goal

pub returns-then-e-eq0 : goal.returns-then-e-eq0
returns-then-e-eq0 c = listing_none _ _ c.reach-e.ensures c.if-e-l.true c.if-e-eq0.true c.refuse.ensures

pub returns-then-e-l : goal.returns-then-e-l
returns-then-e-l c = listing_cut _ _ c.reach-e.ensures c.if-e-l.true c.if-e-eq0.false c.refuse-then-e-l.ensures

pub slice_bounds-header_line-end : goal.slice_bounds-header_line-end
slice_bounds-header_line-end c = sym (length-take-le _ _ (first_inside _ _ c.reach-e.ensures))

pub returns-in_err-kind : goal.returns-in_err-kind
returns-in_err-kind c =
    let p = err_from_is_err_and c.from_residual.result c.from_residual.ensures.1 in
    rw (p.1, p.2) (listing_refused _ _ c.reach-e.ensures c.if-e-l.false c.in_err-kind.ensures refl)

pub overflow_add-e : goal.overflow_add-e
overflow_add-e c =
    let h = first_within _ _ c.reach-e.ensures c.if-e-l.false in
    let g = c.well_formed.1 in
    omega arith

pub read_payments-requires : goal.read_payments-requires
read_payments-requires c =
    let h = first_within _ _ c.reach-e.ensures c.if-e-l.false in
    omega arith

pub returns : goal.returns
returns c =
    listing_read _ _ c.reach-e.ensures c.if-e-l.false c.in_ok-kind.ensures refl
    c.read_payments.ensures
