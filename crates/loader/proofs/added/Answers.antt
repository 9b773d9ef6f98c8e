-- loader::added meets its contract: each sum has room for its number, so none of the adding functions answers that it is over.
use Prim.Native.Nat.{◌+◌}
use native.Mathlib.Omega.{arith}
use mathlib.Core.Path.{refl, ap}
use borrow.Author.Tests.{ltb-false, leb-false}
use Rattle.std.specs.Prelude.{Some}
use Rattle.document.specs.Rules.{most_cents, sum_limit}
use Rattle.sums.proofs.Laws.{accounts_within, accounts_over, bank_codes_within, bank_codes_over, cents_within, cents_over}
use Rattle.loader.proofs.FileFillLaws.{same_sums}
use Rattle.loader.proofs.added.Goals as goal

pub returns-in_err-add : goal.returns-in_err-add
returns-in_err-add c =
    let over = ltb-false (c.args.sums.accounts.0 + c.args.account) sum_limit (accounts_over _ _ c.in_err-add.ensures refl) in
    absurd (omega (arith, c.requires.accounts, over))

pub returns-in_err-add-2 : goal.returns-in_err-add-2
returns-in_err-add-2 c =
    let over = ltb-false (c.args.sums.banks.0 + c.args.code) sum_limit (bank_codes_over _ _ c.in_err-add-2.ensures refl) in
    absurd (omega (arith, c.requires.banks, over))

pub returns-in_err-add-3 : goal.returns-in_err-add-3
returns-in_err-add-3 c =
    let over = leb-false (c.args.sums.cents.0 + c.args.amount) most_cents (cents_over _ _ c.in_err-add-3.ensures refl) in
    absurd (omega (arith, c.requires.cents, over))

pub returns : goal.returns
returns c =
    ap Some (same_sums (accounts_within _ _ c.in_ok-add.ensures refl).1 (bank_codes_within _ _ c.in_ok-add-2.ensures refl).1
    (cents_within _ _ c.in_ok-add-3.ensures refl).1)
