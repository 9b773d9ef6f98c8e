-- line_reader::amount_at meets its contract: each number is read, keeps its rules, and the cents are added.
-- There is no loop; each return is one answer. At the last all has gone well: what the leaves have read (`taken`), the tests passed (`both`,
-- `each`) and the sum within its limit make the amount, field by field (`returns`, by `kept_c10` to `kept_c12`). Each of the others has to
-- deny every amount at p: one that stood there would be read, with the very numbers that the code has read, and keep the rule whose test failed
-- (`no_number`, `amount_tests`, `keeps_c12`). The rest is found by the check.
use mathlib.Core.Path.{sym, ◌∙◌}
use Rattle.sums.proofs.Laws.{cents_within, cents_over}
use Rattle.line_reader.proofs.KeptLaws.{both, each, kept_c10, kept_c11, kept_c12, taken, no_number, found, failed, read_c10, read_c11, read_c12, keeps_c12, amount_tests}
use Rattle.line_reader.proofs.amount_at.Goals as goal

pub returns-in_err-bank_code : goal.returns-in_err-bank_code
returns-in_err-bank_code c = rw c.from_residual.ensures (λ on a. no_number _ _ _ c.number_at.ensures c.in_err-bank_code.ensures.value (read_c10 a))

pub returns-in_err-account : goal.returns-in_err-account
returns-in_err-account c = rw c.from_residual-in_err-account.ensures (λ on a. no_number _ _ _ c.number_at-2.ensures c.in_err-account.ensures.value (read_c11 a))

pub returns-in_err-v : goal.returns-in_err-v
returns-in_err-v c = rw c.from_residual-in_err-v.ensures (λ on a. no_number _ _ _ c.number_at-3.ensures c.in_err-v.ensures.value (read_c12 a))

pub returns-then-not-sender-v : goal.returns-then-not-sender-v
returns-then-not-sender-v c =
    let c10 = (taken _ _ _ c.number_at.ensures c.in_ok-bank_code.ensures.value).0 in
    let c11 = (taken _ _ _ c.number_at-2.ensures c.in_ok-account.ensures.value).0 in
    let c12 = (taken _ _ _ c.number_at-3.ensures c.in_ok-v.ensures.value).0 in
    λ x a. amount_tests a c10 c11 c12 c.bank_code_ok.ensures c.if-not-sender-v.true-raw

pub returns : goal.returns
returns c =
    let tests = both _ _ c.if-not-sender-v.false-raw in
    let sender = each _ _ tests.0 in
    let c12 = (taken _ _ _ c.number_at-3.ensures c.in_ok-v.ensures.value).0 in
    found _ c.add.result
    (λ over x a. failed (keeps_c12 a c12).1.0 (cents_over _ _ c.add.ensures over))
    (λ new on. let within = cents_within _ _ c.add.ensures on in
    record {
      fields = record { sender_bank = c.in_ok-bank_code.bank_code; sender_account = c.in_ok-account.account; cents = c.in_ok-v.v };
      C10 =
          kept_c10 _ _ _ (taken _ _ _ c.number_at.ensures c.in_ok-bank_code.ensures.value).0 (sym c.bank_code_ok.ensures ∙ sender.0);
      C11 = kept_c11 _ _ _ (taken _ _ _ c.number_at-2.ensures c.in_ok-account.ensures.value).0 sender.1;
      C12 = kept_c12 _ _ _ _ c12 tests.1 within.0;
      cents_on = within.1;
    })
