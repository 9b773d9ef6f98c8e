-- Of a line of which composing makes a payment all is seen: its numbers stand at their places, its texts and parts where they are printed.
-- This is the way back from `line_seen_lem`. A line of which composing makes a payment is the printed line of a payment that may come next
-- (`payment_heard`), so its fields stand one behind the other up to the line's end (`Printed`). They are gone through from the front: each
-- number has its full width, so the next field stands at a fixed place (`at_c4` to `at_c14a`); a text ends with its signs, because a tab or the
-- line's end stands behind it (`text_there`). What the walk asks of each field, and of the sums, is then a rule that the payment keeps
-- (`whole_seen`).
use Prim.Native.Nat.{ℕ, ◌+◌, ◌-◌, ◌<◌}
use native.Mathlib.Omega.{arith}
use mathlib.Core.Path.{◌≡◌, refl, sym, ap, ◌∙◌}
use mathlib.Core.List.{List, [], ◌∷◌, ◌++◌, map}
use lib.ListN.{length, drop, get_or}
use lib.Seq.{drop-drop, drop_at}
use lib.Dec.{ltb→lt, lt→ltb, le→leb}
use Rattle.form.specs.Kind.{digits}
use Rattle.document.specs.Signs.{ascii}
use Rattle.document.specs.Values.{Payment}
use Rattle.document.specs.Rules.{most_payments, most_cents, sum_limit, LegalPayment}
use Rattle.document.specs.Marks.{most_parts}
use Rattle.document.proofs.FieldLaws.{key_fits}
use Rattle.document.proofs.MarkLaws.{legal_walked}
use Rattle.diskette.specs.Writing.{length_of}
use Rattle.diskette.specs.Fields.{rules_c4, rules_c5, rules_c6, rules_c7a, rules_c7b, rules_c10, rules_c11, rules_c12}
use Rattle.diskette.proofs.PartsSays.{mark_of}
use Rattle.diskette.proofs.PaymentSays.{GoodPayment}
use Rattle.layout.specs.Widths as width
use Rattle.layout.specs.Lines as place
use Rattle.sums.specs.declared.Sums.{Sums}
use Rattle.sums.specs.Sums.{totals_of}
use Rattle.payment.specs.Adding.{with_payment}
use Rattle.listing.specs.Lines.{tab, line_end, behind_tabs, split, trim}
use Rattle.listing.specs.Listing.{payment_fields}
use Rattle.listing.specs.Composing.{made, compose_payment}
use Rattle.listing.proofs.LineLaws.{line_from}
use Rattle.listing.proofs.PaymentLaws.{payment_heard}
use Rattle.line_reader.specs.Lines.{Receiver, Amount, AllNumbers, ThreeTexts}
use Rattle.line_reader.proofs.FieldLaws.{looked, Fields, byte_here, first_inside, first_tab, behind_first, number_there, behind_number}
use Rattle.line_reader.proofs.TextLaws.{text_there, printed_some}
use Rattle.line_reader.proofs.PartLaws.{parts_there}
use Rattle.line_reader.proofs.PaymentLaws.{Tabs, tabs_parted, Seen}

-- the line at p is ended at s, and the fields of the payment x stand in it
record Printed (l : List ℕ) (p s : ℕ) (x : Payment) : Type 0 where
  letter : get_or l p 0 ≡ 0x43
  fields : Fields l (p + 1) (payment_fields x) s
  inside : s < length l
  end : get_or l s 0 ≡ line_end

-- ---- where the fields stand

module _ {l : List ℕ} {p s : ℕ} {x : Payment} (line : Printed l p s x) where
  at_c4 : Fields l (p + (place.C4 - 1)) (drop 1 (payment_fields x)) s
  at_c4 = behind_number width.C3 x.first_bank line.fields (omega arith)

  at_c5 : Fields l (p + (place.C5 - 1)) (drop 2 (payment_fields x)) s
  at_c5 = behind_number width.C4 x.bank_code at_c4 (omega arith)

  at_c6 : Fields l (p + (place.C6 - 1)) (drop 3 (payment_fields x)) s
  at_c6 = behind_number width.C5 x.account at_c5 (omega arith)

  at_c7a_lem : Fields l (p + (place.C7a - 1)) (drop 4 (payment_fields x)) s
  at_c7a_lem = behind_number width.C6 x.customer at_c6 (omega arith)

  at_c7b_lem : Fields l (p + (place.C7b - 1)) (drop 5 (payment_fields x)) s
  at_c7b_lem = behind_number width.C7a x.key at_c7a_lem (omega arith)

  at_c10 : Fields l (p + (place.C10 - 1)) (drop 6 (payment_fields x)) s
  at_c10 = behind_number width.C7b x.supplement at_c7b_lem (omega arith)

  at_c11 : Fields l (p + (place.C11 - 1)) (drop 7 (payment_fields x)) s
  at_c11 = behind_number width.C10 x.sender_bank at_c10 (omega arith)

  at_c12 : Fields l (p + (place.C12 - 1)) (drop 8 (payment_fields x)) s
  at_c12 = behind_number width.C11 x.sender_account at_c11 (omega arith)

  at_c14a : Fields l (p + place.tab_of_texts) (drop 9 (payment_fields x)) s
  at_c14a = behind_number width.C12 x.cents at_c12 (omega arith)

  abbrev end_c14a : ℕ
  end_c14a = p + place.tab_of_texts + 1 + length (trim x.beneficiary)

  abbrev end_c15 : ℕ
  end_c15 = end_c14a + 1 + length (trim x.sender)

  abbrev end_c16 : ℕ
  end_c16 = end_c15 + 1 + length (trim x.purpose)

  at_c15 : Fields l end_c14a (drop 10 (payment_fields x)) s
  at_c15 = behind_first at_c14a refl

  at_c16 : Fields l end_c15 (drop 11 (payment_fields x)) s
  at_c16 = behind_first at_c15 refl

  tabs : Tabs l p
  tabs =
      record {
        letter = line.letter;
        C3 = first_tab line.fields;
        C4 = first_tab at_c4;
        C5 = first_tab at_c5;
        C6 = first_tab at_c6;
        C7a = first_tab at_c7a_lem;
        C7b = first_tab at_c7b_lem;
        C10 = first_tab at_c10;
        C11 = first_tab at_c11;
        C12 = first_tab at_c12;
      }

  -- ---- a payment that may come next

  module _ (letters : List ℕ) (count : ℕ) (sums : Sums) (good : GoodPayment letters (totals_of count sums) (length_of (length x.parts)) x) where
    legal : LegalPayment letters x
    legal = good.legal

    receiver : Receiver l p letters sums.accounts.0 sums.banks.0 (with_payment sums x).accounts (with_payment sums x).banks
    receiver =
        let key = ltb→lt x.key 100 (key_fits letters x.key legal.C7a) in
        let accounts = lt→ltb (sums.accounts.0 + x.account) sum_limit good.accounts in
        let banks = lt→ltb (sums.banks.0 + x.bank_code) sum_limit good.bank_codes in
        record {
          fields =
              record {
                first_bank = x.first_bank;
                bank_code = x.bank_code;
                account = x.account;
                customer = x.customer;
                key = x.key;
                supplement = x.supplement;
              };
          C3 = looked (digits 8) (λ u. []) l (p + place.C3) (number_there width.C3 x.first_bank line.fields (λ u. []) legal.C3 tt (omega arith));
          C4 = number_there width.C4 x.bank_code at_c4 (rules_c4 sums.banks.0) legal.C4 (legal.c4_first, (banks, tt)) (omega arith);
          C5 = number_there width.C5 x.account at_c5 (rules_c5 sums.accounts.0) legal.C5 (legal.c5_some, (accounts, tt)) (omega arith);
          C6 = number_there width.C6 x.customer at_c6 rules_c6 legal.C6 (legal.c6_ends, tt) (omega arith);
          C7a = number_there width.C7a x.key at_c7a_lem (rules_c7a letters) key (legal.C7a, tt) (omega arith);
          C7b = number_there width.C7b x.supplement at_c7b_lem (rules_c7b x.key) legal.C7b (legal.c7b_key, tt) (omega arith);
          accounts_on = refl;
          banks_on = refl;
        }

    amount : Amount l p sums.cents.0 (with_payment sums x).cents
    amount =
        let cents = le→leb (sums.cents.0 + x.cents) most_cents good.cents in
        record {
          fields = record { sender_bank = x.sender_bank; sender_account = x.sender_account; cents = x.cents };
          C10 = number_there width.C10 x.sender_bank at_c10 rules_c10 legal.C10 (legal.c10_first, tt) (omega arith);
          C11 = number_there width.C11 x.sender_account at_c11 rules_c11 legal.C11 (legal.c11_some, tt) (omega arith);
          C12 = number_there width.C12 x.cents at_c12 (rules_c12 sums.cents.0) legal.C12 (legal.c12_some, (cents, tt)) (omega arith);
          cents_on = refl;
        }

    numbers : AllNumbers l p letters sums (with_payment sums x)
    numbers =
        let h = first_inside at_c14a in
        record { inside = omega arith; parted = tabs_parted l p tabs; receiver = receiver; amount = amount }

    texts : ThreeTexts l (p + place.tab_of_texts) end_c16
    texts =
        record {
          first = end_c14a;
          second = end_c15;
          C14a = text_there x.beneficiary legal.C14a at_c14a line.inside line.end;
          c14a_some = omega (arith, printed_some x.beneficiary legal.C14a legal.c14a_some);
          C15 = text_there x.sender legal.C15 at_c15 line.inside line.end;
          c15_some = omega (arith, printed_some x.sender legal.C15 legal.c15_some);
          C16 = text_there x.purpose legal.C16 at_c16 line.inside line.end;
        }

    whole_seen : count < most_payments → Seen l p letters count sums (with_payment sums x) (length x.parts) s
    whole_seen may =
        record {
          may = may;
          numbers = numbers;
          behind_texts = end_c16;
          texts = texts;
          parts = parts_there line.inside line.end end_c16 most_parts x.parts (legal_walked (map mark_of x.parts) legal.marks) legal.words (behind_first at_c16 refl);
        }

-- of the line t, which is ended and of which composing makes the payment x, all is seen
pub all_seen : (letters : List ℕ) (count : ℕ) (sums : Sums) (l : List ℕ) (p : ℕ) (t rest : List ℕ) (x : Payment) → drop p l ≡ t ++ (line_end ∷ rest)
    → compose_payment letters (totals_of count sums) p (split tab t) ≡ made x
    → Seen l p letters count sums (with_payment sums x) (length x.parts) (p + 1 + length (behind_tabs (payment_fields x)))
all_seen letters count sums l p t rest x line composed =
    let heard = payment_heard letters (totals_of count sums) p (split tab t) x composed in
    let fields = behind_tabs (payment_fields x) in
    let s = p + 1 + length fields in
    let stands : drop p l ≡ 0x43 ∷ (fields ++ (line_end ∷ rest))
    = line ∙ ap (λ (y : List ℕ). y ++ (line_end ∷ rest)) (sym (line_from t (ascii "C") (payment_fields x) heard.fields)) in
    let first = byte_here l p stands in
    let behind : drop s l ≡ line_end ∷ rest
    = sym (drop-drop (length fields) (p + 1) l) ∙ ap (drop (length fields)) first.2 ∙ drop_at fields (line_end ∷ rest) (length fields) refl in
    let last = byte_here l s behind in
    whole_seen
    (record {
      letter = first.1;
      fields = record { stand = first.2 ∙ ap (λ (y : List ℕ). fields ++ y) (sym behind) };
      inside = last.0;
      end = last.1;
    }) letters count sums heard.good heard.may
