-- The fields of a C behind its length say what the rules say: a filled C is a legal payment written out, with room left in the three sums.
-- Both directions list the fields up to C18 in order: the conditions of a legal payment are the widths and the rules of these fields, and what
-- the rules of C4, C5, C12 and C18 ask besides, the sums and the length, stands in `GoodPayment`. The parts are joined on behind C18, which
-- tells how many there are (`parts_says`). Their marks leave room one by one exactly where they are legal by order and number (`legal_walked`,
-- `walked_legal`).
use Prim.Native.Nat.{ℕ, ◌+◌, ◌^◌, ◌≤◌, ◌<◌}
use native.Mathlib.Omega.{arith}
use mathlib.Core.Path.{◌≡◌, refl, ap, ◌∙◌}
use mathlib.Core.List.{List, [], ◌++◌, map}
use lib.ListN.{length, length-map}
use lib.Dec.{leb→le, ltb→lt, le→leb, lt→ltb, eqb→eq, eqb_refl}
use Rattle.form.specs.Form.{Form, ret, ◌>>=◌, Filled, value, bytes}
use Rattle.form.proofs.RulesLaws.{◌▸◌, ok, Filling, Told, Says, then_fill, then_told}
use Rattle.document.specs.Values.{Part, Payment, Totals}
use Rattle.document.specs.Rules.{most_cents, sum_limit, LegalPayment}
use Rattle.diskette.specs.Writing.{length_of, write_parts, write_body}
use Rattle.diskette.specs.Fields.{Name, parts, payment}
use Rattle.document.proofs.MarkLaws.{legal_walked, walked_legal, legal_length}
use Rattle.document.proofs.FieldLaws.{text_fits, fits_text, key_fits}
use Rattle.diskette.proofs.PartsSays.{mark_of, GoodParts, parts_says}

-- a payment that may come after payments which come to t, and whose length is l
pub record GoodPayment (kind : List ℕ) (t : Totals) (l : ℕ) (p : Payment) : Type 0 where
  pub legal : LegalPayment kind p
  pub accounts : t.accounts + p.account < sum_limit
  pub bank_codes : t.bank_codes + p.bank_code < sum_limit
  pub cents : t.cents + p.cents ≤ most_cents
  pub long : length_of (length p.parts) ≡ l

-- a payment with other parts
abbrev with_parts : Payment → List Part → Payment
with_parts p ps =
    record {
      first_bank = p.first_bank;
      bank_code = p.bank_code;
      account = p.account;
      customer = p.customer;
      key = p.key;
      supplement = p.supplement;
      sender_bank = p.sender_bank;
      sender_account = p.sender_account;
      cents = p.cents;
      beneficiary = p.beneficiary;
      sender = p.sender;
      purpose = p.purpose;
      parts = ps;
    }

abbrev close : Payment → List Part → Form Name Payment
close p ps = ret (with_parts p ps)

pub few_parts : (kind : List ℕ) (p : Payment) → LegalPayment kind p → length p.parts ≤ 15
few_parts kind p l = rw (length-map p.parts mark_of) at (legal_length (map mark_of p.parts) l.marks)

module _ (kind : List ℕ) (t : Totals) (l : ℕ) where
  -- a good payment fills in C; n is what C18 holds, s fills in the parts
  from_parts : (p : Payment) → GoodPayment kind t l p → (n : ℕ) → n ≡ length p.parts → n < 100 → (s : Filled (parts n 0 15 >>= close p))
      → value (parts n 0 15 >>= close p) s ≡ p → bytes (parts n 0 15 >>= close p) s ≡ write_parts 0 p.parts ++ []
      → Filling (payment kind t l) p (write_body p)
  from_parts p g n e small s v b =
      let q = g.legal in (
        ok
            ▸ (p.first_bank, lt→ltb p.first_bank (10 ^ 8) q.C3, tt)
            ▸ (p.bank_code, lt→ltb p.bank_code (10 ^ 8) q.C4, (q.c4_first, (lt→ltb (t.bank_codes + p.bank_code) sum_limit g.bank_codes, tt)))
            ▸ (p.account, lt→ltb p.account (10 ^ 10) q.C5, (q.c5_some, (lt→ltb (t.accounts + p.account) sum_limit g.accounts, tt)))
            ▸ (p.customer, lt→ltb p.customer (10 ^ 13) q.C6, (q.c6_ends, tt))
            ▸ (p.key, key_fits kind p.key q.C7a, (q.C7a, tt))
            ▸ (p.supplement, lt→ltb p.supplement (10 ^ 3) q.C7b, (q.c7b_key, tt))
            ▸ ok
            ▸ ok
            ▸ (p.sender_bank, lt→ltb p.sender_bank (10 ^ 8) q.C10, (q.c10_first, tt))
            ▸ (p.sender_account, lt→ltb p.sender_account (10 ^ 10) q.C11, (q.c11_some, tt))
            ▸ (p.cents, lt→ltb p.cents (10 ^ 11) q.C12, (q.c12_some, (le→leb (t.cents + p.cents) most_cents g.cents, tt)))
            ▸ ok
            ▸ (p.beneficiary, text_fits p.beneficiary q.C14a, (q.c14a_some, tt))
            ▸ ok
            ▸ (p.sender, text_fits p.sender q.C15, (q.c15_some, tt))
            ▸ (p.purpose, text_fits p.purpose q.C16, tt)
            ▸ ok
            ▸ ok
            ▸ (n, lt→ltb n 100 small, (rw (e, g.long) (eqb_refl l), tt))
            ▸ s,
        v,
        rw (b, e),
      )

  fill : (p : Payment) → GoodPayment kind t l p → Filling (payment kind t l) p (write_body p)
  fill p g =
      let n = length p.parts in
      let f = few_parts kind p g.legal in
      let d = then_fill (parts n 0 15) (GoodParts n 15) (write_parts 0) (parts_says n 0 15) (close p) p.parts
      (refl, legal_walked (map mark_of p.parts) g.legal.marks, g.legal.words) tt in
      from_parts p g n refl (omega arith) d.0 d.1 d.2

  told : (r : Filled (payment kind t l)) → Told (GoodPayment kind t l) write_body (value (payment kind t l) r) (bytes (payment kind t l) r)
  told r =
      let first_bank = r.1 in
      let bank_code = first_bank.1 in
      let account = bank_code.1 in
      let customer = account.1 in
      let key = customer.1 in
      let supplement = key.1 in
      let sender_bank = supplement.1.1.1 in
      let sender_account = sender_bank.1 in
      let cents = sender_account.1 in
      let beneficiary = cents.1.1 in
      let sender = beneficiary.1.1 in
      let purpose = sender.1 in
      let k = purpose.1.1.1 in
      let n : ℕ = k.0.0 in
      let bare : Payment
      = record {
        first_bank = first_bank.0.0;
        bank_code = bank_code.0.0;
        account = account.0.0;
        customer = customer.0.0;
        key = key.0.0;
        supplement = supplement.0.0;
        sender_bank = sender_bank.0.0;
        sender_account = sender_account.0.0;
        cents = cents.0.0;
        beneficiary = beneficiary.0.0;
        sender = sender.0.0;
        purpose = purpose.0.0;
        parts = [];
      } in
      let d = then_told (parts n 0 15) (GoodParts n 15) (write_parts 0) (parts_says n 0 15) (close bare) k.1 in
      let legal : LegalPayment kind (with_parts bare d.0)
      = record {
        C3 = ltb→lt first_bank.0.0 (10 ^ 8) first_bank.0.1;
        C4 = ltb→lt bank_code.0.0 (10 ^ 8) bank_code.0.1;
        c4_first = bank_code.0.2.0;
        C5 = ltb→lt account.0.0 (10 ^ 10) account.0.1;
        c5_some = account.0.2.0;
        C6 = ltb→lt customer.0.0 (10 ^ 13) customer.0.1;
        c6_ends = customer.0.2.0;
        C7a = key.0.2.0;
        C7b = ltb→lt supplement.0.0 (10 ^ 3) supplement.0.1;
        c7b_key = supplement.0.2.0;
        C10 = ltb→lt sender_bank.0.0 (10 ^ 8) sender_bank.0.1;
        c10_first = sender_bank.0.2.0;
        C11 = ltb→lt sender_account.0.0 (10 ^ 10) sender_account.0.1;
        c11_some = sender_account.0.2.0;
        C12 = ltb→lt cents.0.0 (10 ^ 11) cents.0.1;
        c12_some = cents.0.2.0;
        C14a = fits_text beneficiary.0.0 beneficiary.0.1;
        c14a_some = beneficiary.0.2.0;
        C15 = fits_text sender.0.0 sender.0.1;
        c15_some = sender.0.2.0;
        C16 = fits_text purpose.0.0 purpose.0.1;
        marks = walked_legal (map mark_of d.0) d.1.1;
        words = d.1.2;
      } in (
        with_parts bare d.0,
        record {
          legal = legal;
          accounts = ltb→lt (t.accounts + account.0.0) sum_limit account.0.2.1.0;
          bank_codes = ltb→lt (t.bank_codes + bank_code.0.0) sum_limit bank_code.0.2.1.0;
          cents = leb→le (t.cents + cents.0.0) most_cents cents.0.2.1.0;
          long = ap length_of d.1.0 ∙ eqb→eq (length_of n) l k.0.2.0;
        },
        d.3,
        rw (d.4, d.1.0),
      )

  pub payment_says : Says (payment kind t l) (GoodPayment kind t l) write_body
  payment_says = record { fill = fill; told = told }
