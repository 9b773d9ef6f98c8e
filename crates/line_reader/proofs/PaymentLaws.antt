-- The line of a payment, seen stretch by stretch, is the line of a payment that may come next.
-- The payment is put together from what was seen: its numbers as they were read, its texts filled up to their width, its parts (`paid`). Each of
-- its rules is one that the walk has tested, so it is legal and the sums stay within their limits (`paid_legal`, `paid_good`). The line that
-- stands at p is its printed line, field behind field from the letter to the line's end (`paid_fields`, `paid_line`), and of such a line
-- composing makes the payment (`payment_composes`).
use Prim.Native.Nat.{ℕ, ◌+◌, ◌-◌, ◌*◌, ◌≤◌, ◌<◌, min}
use native.Mathlib.Omega.{arith}
use mathlib.Core.Path.{◌≡◌, refl, sym, ap, ap₂, ◌∙◌}
use mathlib.Core.Bool.{Bool, true, ◌&&◌}
use mathlib.Core.List.{List, [], ◌∷◌, ◌++◌, map}
use lib.ListN.{length, drop, get_or}
use lib.Dec.{T, leb→le, ltb→lt, eqb→eq}
use borrow.Author.Tests.{eq-eqb}
use Rattle.form.proofs.BoolLaws.{T_of, and_both}
use Rattle.document.specs.Signs.{ascii}
use Rattle.document.specs.Values.{Payment, Totals}
use Rattle.document.specs.Rules.{most_payments, most_cents, sum_limit, LegalPayment}
use Rattle.diskette.specs.Writing.{section, length_of, write_payment}
use Rattle.diskette.specs.Fields.{rules_c4, rules_c5, rules_c6, rules_c7a, rules_c7b, rules_c10, rules_c11, rules_c12}
use Rattle.document.specs.Marks.{most_parts}
use Rattle.document.proofs.MarkLaws.{walked_legal}
use Rattle.diskette.proofs.PartsSays.{mark_of}
use Rattle.diskette.proofs.PaymentSays.{GoodPayment}
use Rattle.diskette.proofs.LayoutLaws.{payment_length}
use Rattle.layout.specs.Lines as line
use Rattle.sums.specs.declared.AccountSum.{AccountSum}
use Rattle.sums.specs.declared.BankCodeSum.{BankCodeSum}
use Rattle.sums.specs.declared.CentSum.{CentSum}
use Rattle.sums.specs.declared.Sums.{Sums}
use Rattle.sums.specs.Sums.{totals_of}
use Rattle.payment_fields.specs.Stretches.{joined}
use Rattle.payment.specs.Adding.{with_payment}
use Rattle.listing.specs.Lines.{tab, line_end, behind_tabs}
use Rattle.listing.specs.Listing.{payment_fields, payment_line}
use Rattle.listing.specs.Composing.{made, compose_payment}
use Rattle.listing.proofs.LineLaws.{line_ended}
use Rattle.listing.proofs.PaymentLaws.{payment_composes}
use Rattle.line_reader.specs.Lines.{is, tab_ahead, parted, AllNumbers, ThreeTexts, PartsTo}
use Rattle.line_reader.proofs.FieldLaws.{byte_there, Fields, no_rules, number_fits, number_holds, number_field}
use Rattle.line_reader.proofs.TextLaws.{wide, text_legal, text_some, text_field}
use Rattle.line_reader.proofs.PartLaws.{PartsTold, parts_told}

-- ---- the letter and the tabs

pub record Tabs (l : List ℕ) (p : ℕ) : Type 0 where
  pub letter : get_or l p 0 ≡ 0x43
  pub C3 : get_or l (p + (line.C3 - 1)) 0 ≡ tab
  pub C4 : get_or l (p + (line.C4 - 1)) 0 ≡ tab
  pub C5 : get_or l (p + (line.C5 - 1)) 0 ≡ tab
  pub C6 : get_or l (p + (line.C6 - 1)) 0 ≡ tab
  pub C7a : get_or l (p + (line.C7a - 1)) 0 ≡ tab
  pub C7b : get_or l (p + (line.C7b - 1)) 0 ≡ tab
  pub C10 : get_or l (p + (line.C10 - 1)) 0 ≡ tab
  pub C11 : get_or l (p + (line.C11 - 1)) 0 ≡ tab
  pub C12 : get_or l (p + (line.C12 - 1)) 0 ≡ tab

three : (a b c : Bool) → T ((a && b) && c) → T a × T b × T c
three a b c t = let h = and_both (a && b) c t in let i = and_both a b h.0 in (i.0, i.1, h.1)

tabs_there : (l : List ℕ) (p : ℕ) → parted l p ≡ true → Tabs l p
tabs_there l p e =
    let s : ℕ → Bool = λ q. tab_ahead l p q in
    let front = (is l p 0x43 && s line.C3) && ((s line.C4 && s line.C5) && s line.C6) in
    let back = ((s line.C7a && s line.C7b) && s line.C10) && (s line.C11 && s line.C12) in
    let both = and_both front back (T_of e) in
    let f = and_both (is l p 0x43 && s line.C3) ((s line.C4 && s line.C5) && s line.C6) both.0 in
    let b = and_both ((s line.C7a && s line.C7b) && s line.C10) (s line.C11 && s line.C12) both.1 in
    let letter = and_both (is l p 0x43) (s line.C3) f.0 in
    let receiver = three (s line.C4) (s line.C5) (s line.C6) f.1 in
    let keys = three (s line.C7a) (s line.C7b) (s line.C10) b.0 in
    let amount = and_both (s line.C11) (s line.C12) b.1 in
    let see : (q : ℕ) → T (s q) → get_or l (p + (q - 1)) 0 ≡ tab = λ q t. eqb→eq (get_or l (p + (q - 1)) 0) tab t in
    record {
      letter = eqb→eq (get_or l p 0) 0x43 letter.0;
      C3 = see line.C3 letter.1;
      C4 = see line.C4 receiver.0;
      C5 = see line.C5 receiver.1;
      C6 = see line.C6 receiver.2;
      C7a = see line.C7a keys.0;
      C7b = see line.C7b keys.1;
      C10 = see line.C10 keys.2;
      C11 = see line.C11 amount.0;
      C12 = see line.C12 amount.1;
    }

pub tabs_parted : (l : List ℕ) (p : ℕ) → Tabs l p → parted l p ≡ true
tabs_parted l p t =
    rw (
      eq-eqb (get_or l p 0) 0x43 t.letter,
      eq-eqb (get_or l (p + (line.C3 - 1)) 0) tab t.C3,
      eq-eqb (get_or l (p + (line.C4 - 1)) 0) tab t.C4,
      eq-eqb (get_or l (p + (line.C5 - 1)) 0) tab t.C5,
      eq-eqb (get_or l (p + (line.C6 - 1)) 0) tab t.C6,
      eq-eqb (get_or l (p + (line.C7a - 1)) 0) tab t.C7a,
      eq-eqb (get_or l (p + (line.C7b - 1)) 0) tab t.C7b,
      eq-eqb (get_or l (p + (line.C10 - 1)) 0) tab t.C10,
      eq-eqb (get_or l (p + (line.C11 - 1)) 0) tab t.C11,
      eq-eqb (get_or l (p + (line.C12 - 1)) 0) tab t.C12,
    )

-- ---- the payment

-- the line at p is that of a payment which may come after payments that come to t: the sums with it, its bytes in the file, the place behind
pub record LineOf (l : List ℕ) (p : ℕ) (letters : List ℕ) (t : Totals) (sums new : Sums) (bytes next : ℕ) : Type 0 where
  pub payment : Payment
  pub legal : LegalPayment letters payment
  pub line : drop p l ≡ payment_line payment ++ drop next l
  pub inside : next ≤ length l
  pub composed : compose_payment letters t p (ascii "C" ∷ payment_fields payment) ≡ made payment
  pub added : new ≡ with_payment sums payment
  pub size : bytes ≡ length (write_payment payment)

sums_added : (sums new : Sums) (x : Payment) → new.accounts ≡ record { 0 = sums.accounts.0 + x.account }
    → new.banks ≡ record { 0 = sums.banks.0 + x.bank_code } → new.cents ≡ record { 0 = sums.cents.0 + x.cents } → new ≡ with_payment sums x
sums_added sums new x a b c =
    ap₂ (λ (i : AccountSum) (j : BankCodeSum). record { accounts = i; banks = j; cents = new.cents }) a b
    ∙ ap (λ (i : CentSum). record { accounts = (with_payment sums x).accounts; banks = (with_payment sums x).banks; cents = i }) c

-- what was seen of the line at p
pub record Seen (l : List ℕ) (p : ℕ) (letters : List ℕ) (count : ℕ) (sums new : Sums) (k e : ℕ) : Type 0 where
  pub may : count < most_payments
  pub numbers : AllNumbers l p letters sums new
  pub behind_texts : ℕ
  pub texts : ThreeTexts l (p + line.tab_of_texts) behind_texts
  pub parts : PartsTo l behind_texts most_parts k e

module _ {l : List ℕ} {p : ℕ} {letters : List ℕ} {count : ℕ} {sums new : Sums} {k e : ℕ} (seen : Seen l p letters count sums new k e) where
  tabs : Tabs l p
  tabs = tabs_there l p seen.numbers.parted

  told : PartsTold l seen.behind_texts most_parts k e
  told = parts_told seen.parts

  abbrev paid : Payment
  paid =
      let n = seen.texts in
      joined seen.numbers.receiver.fields seen.numbers.amount.fields
      (record {
        beneficiary = wide l (p + line.tab_of_texts) n.first;
        sender = wide l n.first n.second;
        purpose = wide l n.second seen.behind_texts;
      }) told.parts

  paid_legal : LegalPayment letters paid
  paid_legal =
      let r = seen.numbers.receiver in
      let a = seen.numbers.amount in
      let n = seen.texts in
      let c3 = no_rules l (p + line.C3) 8 _ r.C3 in
      record {
        C3 = number_fits _ _ _ _ (λ u. []) c3;
        C4 = number_fits _ _ _ _ (rules_c4 sums.banks.0) r.C4;
        c4_first = (number_holds _ _ _ _ (rules_c4 sums.banks.0) r.C4).0;
        C5 = number_fits _ _ _ _ (rules_c5 sums.accounts.0) r.C5;
        c5_some = (number_holds _ _ _ _ (rules_c5 sums.accounts.0) r.C5).0;
        C6 = number_fits _ _ _ _ rules_c6 r.C6;
        c6_ends = (number_holds _ _ _ _ rules_c6 r.C6).0;
        C7a = (number_holds _ _ _ _ (rules_c7a letters) r.C7a).0;
        C7b = number_fits _ _ _ _ (rules_c7b paid.key) r.C7b;
        c7b_key = (number_holds _ _ _ _ (rules_c7b paid.key) r.C7b).0;
        C10 = number_fits _ _ _ _ rules_c10 a.C10;
        c10_first = (number_holds _ _ _ _ rules_c10 a.C10).0;
        C11 = number_fits _ _ _ _ rules_c11 a.C11;
        c11_some = (number_holds _ _ _ _ rules_c11 a.C11).0;
        C12 = number_fits _ _ _ _ (rules_c12 sums.cents.0) a.C12;
        c12_some = (number_holds _ _ _ _ (rules_c12 sums.cents.0) a.C12).0;
        C14a = text_legal n.C14a;
        c14a_some = text_some n.C14a n.c14a_some;
        C15 = text_legal n.C15;
        c15_some = text_some n.C15 n.c15_some;
        C16 = text_legal n.C16;
        marks = walked_legal (map mark_of told.parts) told.marks;
        words = told.words;
      }

  paid_good : GoodPayment letters (totals_of count sums) (length_of (length paid.parts)) paid
  paid_good =
      let r = seen.numbers.receiver in
      let a = seen.numbers.amount in
      record {
        legal = paid_legal;
        accounts = ltb→lt (sums.accounts.0 + paid.account) sum_limit (number_holds _ _ _ _ (rules_c5 sums.accounts.0) r.C5).1.0;
        bank_codes = ltb→lt (sums.banks.0 + paid.bank_code) sum_limit (number_holds _ _ _ _ (rules_c4 sums.banks.0) r.C4).1.0;
        cents = leb→le (sums.cents.0 + paid.cents) most_cents (number_holds _ _ _ _ (rules_c12 sums.cents.0) a.C12).1.0;
        long = refl;
      }

  -- the payment's fields stand in the line
  paid_fields : Fields l (p + 1) (payment_fields paid) e
  paid_fields =
      let r = seen.numbers.receiver in
      let a = seen.numbers.amount in
      let n = seen.texts in
      let t = tabs in
      number_field _ _ _ _ (λ u. []) (no_rules l (p + line.C3) 8 _ r.C3) t.C3 (omega arith) (omega arith)
      (number_field _ _ _ _ (rules_c4 sums.banks.0) r.C4 t.C4 (omega arith) (omega arith)
      (number_field _ _ _ _ (rules_c5 sums.accounts.0) r.C5 t.C5 (omega arith) (omega arith)
      (number_field _ _ _ _ rules_c6 r.C6 t.C6 (omega arith) (omega arith)
      (number_field _ _ _ _ (rules_c7a letters) r.C7a t.C7a (omega arith) (omega arith)
      (number_field _ _ _ _ (rules_c7b paid.key) r.C7b t.C7b (omega arith) (omega arith)
      (number_field _ _ _ _ rules_c10 a.C10 t.C10 (omega arith) (omega arith)
      (number_field _ _ _ _ rules_c11 a.C11 t.C11 (omega arith) (omega arith)
      (number_field _ _ _ _ (rules_c12 sums.cents.0) a.C12 t.C12 (omega arith) (omega arith)
      (text_field n.C14a (text_field n.C15 (text_field n.C16 told.fields)))))))))))

  paid_line : drop p l ≡ payment_line paid ++ drop (e + 1) l
  paid_line =
      let i = seen.numbers.inside in
      byte_there l p 0x43 (omega arith) tabs.letter
      ∙ ap (λ (x : List ℕ). 0x43 ∷ x)
      (paid_fields.stand ∙ ap (λ (x : List ℕ). behind_tabs (payment_fields paid) ++ x) (byte_there l e line_end told.inside told.end))
      ∙ sym (line_ended (ascii "C") (payment_fields paid) (drop (e + 1) l))

  pub line_seen_lem : {bytes : ℕ} → bytes ≡ 128 * section (min k most_parts) → LineOf l p letters (totals_of count sums) sums new bytes (e + 1)
  line_seen_lem b =
      let few = told.few in
      let inside = told.inside in
      let parts : min k most_parts ≡ length paid.parts = omega (arith, told.count) in
      let r = seen.numbers.receiver in
      let a = seen.numbers.amount in
      record {
        payment = paid;
        legal = paid_legal;
        line = paid_line;
        inside = omega arith;
        composed = payment_composes letters (totals_of count sums) p paid seen.may paid_good;
        added = sums_added sums new paid r.accounts_on r.banks_on a.cents_on;
        size = b ∙ ap (λ n. 128 * section n) parts ∙ sym (payment_length letters paid paid_legal);
      }
