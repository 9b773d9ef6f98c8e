-- line_reader::receiver_at meets its contract: each number is read, keeps its rules, and two are added.
-- There is no loop; each return is one answer. At the last all has gone well: what the leaves have read (`taken`), the tests passed (`both`,
-- `each`) and the two sums within their limits make the receiver, field by field (`returns`, by `kept_c4` to `kept_c7b`). Each of the others
-- has to deny every receiver at p: one that stood there would be read, with the very numbers that the code has read, and keep the rule whose
-- test failed (`no_number`, `receiver_tests`, `keeps_c4`, `keeps_c5`). The rest is found by the check.
use mathlib.Core.Path.{refl, sym, ◌∙◌}
use Rattle.fields.specs.Answers.{letters_of}
use Rattle.sums.proofs.Laws.{accounts_within, accounts_over, bank_codes_within, bank_codes_over}
use Rattle.line_reader.proofs.KeptLaws.{both, each, kept_c4, kept_c5, kept_c6, kept_c7a, kept_c7b, taken, no_number, failed, read_c4, keeps_c4, read_c5, keeps_c5, read_c6, read_c7a, read_c7b, receiver_tests}
use Rattle.line_reader.proofs.receiver_at.Goals as goal

pub returns-in_err-ok : goal.returns-in_err-ok
returns-in_err-ok c = rw c.from_residual.ensures (λ on r. no_number _ _ _ c.number_at.ensures c.in_err-ok.ensures.value r.C3)

pub returns-in_err-bank_code : goal.returns-in_err-bank_code
returns-in_err-bank_code c = rw c.from_residual-in_err-bank_code.ensures (λ on r. no_number _ _ _ c.number_at-2.ensures c.in_err-bank_code.ensures.value (read_c4 r))

pub returns-in_err-account : goal.returns-in_err-account
returns-in_err-account c = rw c.from_residual-in_err-account.ensures (λ on r. no_number _ _ _ c.number_at-3.ensures c.in_err-account.ensures.value (read_c5 r))

pub returns-in_err-customer : goal.returns-in_err-customer
returns-in_err-customer c = rw c.from_residual-in_err-customer.ensures (λ on r. no_number _ _ _ c.number_at-4.ensures c.in_err-customer.ensures.value (read_c6 r))

pub returns-in_err-key : goal.returns-in_err-key
returns-in_err-key c = rw c.from_residual-in_err-key.ensures (λ on r. no_number _ _ _ c.number_at-5.ensures c.in_err-key.ensures.value (read_c7a r))

pub returns-in_err-supplement : goal.returns-in_err-supplement
returns-in_err-supplement c = rw c.from_residual-in_err-supplement.ensures (λ on r. no_number _ _ _ c.number_at-6.ensures c.in_err-supplement.ensures.value (read_c7b r))

pub returns-then-not-receiver-customer_ok : goal.returns-then-not-receiver-customer_ok
returns-then-not-receiver-customer_ok c =
    let c4 = (taken _ _ _ c.number_at-2.ensures c.in_ok-bank_code.ensures.value).0 in
    let c5 = (taken _ _ _ c.number_at-3.ensures c.in_ok-account.ensures.value).0 in
    let c6 = (taken _ _ _ c.number_at-4.ensures c.in_ok-customer.ensures.value).0 in
    let c7a = (taken _ _ _ c.number_at-5.ensures c.in_ok-key.ensures.value).0 in
    let c7b = (taken _ _ _ c.number_at-6.ensures c.in_ok-supplement.ensures.value).0 in
    λ on r. receiver_tests r c4 c5 c6 c7a c7b c.bank_code_ok.ensures c.customer_ok.ensures c.key_ok.ensures c.supplement_ok.ensures c.if-not-receiver-customer_ok.true-raw

pub returns-in_err-new_accounts : goal.returns-in_err-new_accounts
returns-in_err-new_accounts c =
    let c5 = (taken _ _ _ c.number_at-3.ensures c.in_ok-account.ensures.value).0 in
    rw c.from_residual-in_err-new_accounts.ensures (λ on r. failed (keeps_c5 r c5).1.0 (accounts_over _ _ c.in_err-new_accounts.ensures refl))

pub returns-in_err-new_banks : goal.returns-in_err-new_banks
returns-in_err-new_banks c =
    let c4 = (taken _ _ _ c.number_at-2.ensures c.in_ok-bank_code.ensures.value).0 in
    rw c.from_residual-in_err-new_banks.ensures (λ on r. failed (keeps_c4 r c4).1.0 (bank_codes_over _ _ c.in_err-new_banks.ensures refl))

pub returns : goal.returns
returns c =
    let tests = both _ _ c.if-not-receiver-customer_ok.false-raw in
    let numbers = each _ _ tests.0 in
    let receiver = each _ _ numbers.0 in
    let keys = each _ _ tests.1 in
    let on = accounts_within _ _ c.in_ok-new_accounts.ensures refl in
    let banks = bank_codes_within _ _ c.in_ok-new_banks.ensures refl in
    record {
      fields =
          record {
            first_bank = c.in_ok-ok.field-0.0;
            bank_code = c.in_ok-bank_code.bank_code;
            account = c.in_ok-account.account;
            customer = c.in_ok-customer.customer;
            key = c.in_ok-key.key;
            supplement = c.in_ok-supplement.supplement;
          };
      C3 = (taken _ _ _ c.number_at.ensures c.in_ok-ok.ensures.value).0;
      C4 =
          kept_c4 _ _ _ _ (taken _ _ _ c.number_at-2.ensures c.in_ok-bank_code.ensures.value).0 (sym c.bank_code_ok.ensures ∙ receiver.0)
          banks.0;
      C5 = kept_c5 _ _ _ _ (taken _ _ _ c.number_at-3.ensures c.in_ok-account.ensures.value).0 receiver.1 on.0;
      C6 = kept_c6 _ _ _ (taken _ _ _ c.number_at-4.ensures c.in_ok-customer.ensures.value).0 (sym c.customer_ok.ensures ∙ numbers.1);
      C7a = kept_c7a _ _ _ (letters_of c.args.kind) (taken _ _ _ c.number_at-5.ensures c.in_ok-key.ensures.value).0 (sym c.key_ok.ensures ∙ keys.0);
      C7b = kept_c7b _ _ _ c.in_ok-key.key (taken _ _ _ c.number_at-6.ensures c.in_ok-supplement.ensures.value).0 (sym c.supplement_ok.ensures ∙ keys.1);
      accounts_on = on.1;
      banks_on = banks.1;
    }
