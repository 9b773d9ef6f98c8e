-- The line of a C: the fields of a payment that may come next are composed to it, and a line that is composed to a payment has its fields.
-- C with its length says the payments that may come next (`next_says`): behind C1 by `payment_says`, and at C1 the limits are asked, since no
-- length of C is that of E. The printed fields have their form (`payment_formed`) and, made wide, are the record (`payment_laid`), so that the
-- laws of any line (`ComposingLaws`) give both directions. The hard step is the way back: the record is made with as many parts as the number of
-- fields tells, and its C1 shows that the payment read from it has as many (`same_parts`).
use Prim.Native.Nat.{ℕ, suc, ◌*◌, ◌^◌, ◌≤◌, ◌<◌}
use native.Mathlib.Omega.{arith}
use mathlib.Core.Path.{◌≡◌, refl, sym, ap, ◌∙◌, subst}
use mathlib.Core.List.{List, [], ◌∷◌, ◌++◌, map, append_assoc, append-nil}
use lib.ListN.{length, take, drop}
use lib.Seq.{take_at}
use lib.Dec.{T, ltb→lt, lt→ltb}
use Rattle.form.specs.Kind.{numeral, blanks}
use Rattle.form.specs.Form.{Filled, value, bytes}
use Rattle.form.specs.Reader.{number}
use Rattle.form.proofs.BelowLaws.{below, agree}
use Rattle.form.proofs.KindLaws.{numeral_length, number_numeral}
use Rattle.form.proofs.RulesLaws.{◌▸◌, Filling, Told, Says}
use Rattle.document.specs.Signs.{ascii}
use Rattle.document.specs.Values.{Part, Payment, Totals}
use Rattle.document.specs.Rules.{All, Text, most_payments, LegalPayment}
use Rattle.diskette.specs.Writing.{section, to_section_end, to_next_part, length_of, write_parts, write_body, write_payment}
use Rattle.document.proofs.FieldLaws.{key_fits}
use Rattle.diskette.proofs.PartsSays.{mark_of}
use Rattle.diskette.proofs.PaymentSays.{GoodPayment, few_parts, payment_says}
use Rattle.diskette.proofs.EndSays.{payment_begins, may_begin}
use Rattle.diskette.proofs.GoodLaws.{below_top}
use Rattle.listing.specs.Lines.{tab, line_end}
use Rattle.listing.specs.Listing.{part_fields, payment_fields}
use Rattle.listing.specs.Records.{record_parts, record_c, parts_of, lay, cells, formed}
use Rattle.listing.specs.Composing.{made, whole_payment, compose_line, compose_payment}
use Rattle.listing.proofs.LineLaws.{Clear, pad_trim}
use Rattle.listing.proofs.RecordLaws.{span, lay_first, lay_begins}
use Rattle.listing.proofs.ComposingLaws.{Heard, line_composes, line_heard}
use Rattle.listing.proofs.PrintedLaws.{AllPrinted, printed_formed, printed_clear, pad_number, number_printed, text_printed}

-- ---- the length of the record

-- the record of a payment with k parts takes 128 bytes for each section
pub span_c : (k : ℕ) → k ≤ 15 → span (record_c k) ≡ 128 * section k
unfolding below numeral to_section_end to_next_part
span_c k h = agree (λ k. span (record_c k)) (λ k. 128 * section k) 16 k refl (omega arith)

-- ---- the fields

parts_laid : (i : ℕ) (ps : List Part) → All (λ (q : Part). Text q.words) ps → lay (record_parts i (length ps)) (part_fields ps) ≡ write_parts i ps
parts_laid i [] a = append-nil (blanks (to_section_end i))
parts_laid i (q ∷ qs) a =
    rw (pad_number 2 q.mark, pad_trim 27 q.words a.0.long, parts_laid (suc i) qs a.1, append-nil (write_parts (suc i) qs))

-- the printed fields of a legal payment, made wide, are its record
pub payment_laid : (kind : List ℕ) (q : Payment) → LegalPayment kind q → lay (record_c (length q.parts)) (payment_fields q) ≡ write_payment q
payment_laid kind q l =
    rw (
      pad_number 8 q.first_bank,
      pad_number 8 q.bank_code,
      pad_number 10 q.account,
      pad_number 13 q.customer,
      pad_number 2 q.key,
      pad_number 3 q.supplement,
      pad_number 8 q.sender_bank,
      pad_number 10 q.sender_account,
      pad_number 11 q.cents,
      pad_trim 27 q.beneficiary l.C14a.long,
      pad_trim 27 q.sender l.C15.long,
      pad_trim 27 q.purpose l.C16.long,
      parts_laid 0 q.parts l.words,
      append-nil (write_parts 0 q.parts),
    )

parts_printed : (i p : ℕ) (ps : List Part) → All (λ m. (1 ≤ m) × (m ≤ 3)) (map mark_of ps) → All (λ (q : Part). Text q.words) ps
    → AllPrinted (cells p (record_parts i (length ps))) (part_fields ps)
parts_printed i p [] m a = tt
parts_printed i p (q ∷ qs) m a =
    number_printed 2 q.mark (omega (arith, m.0.1)) ▸ text_printed q.words a.0 ▸ parts_printed (suc i) _ qs m.1 a.1

payment_printed : (kind : List ℕ) (q : Payment) → LegalPayment kind q → AllPrinted (cells 0 (record_c (length q.parts))) (payment_fields q)
payment_printed kind q l =
    number_printed 8 q.first_bank l.C3
    ▸ number_printed 8 q.bank_code l.C4
    ▸ number_printed 10 q.account l.C5
    ▸ number_printed 13 q.customer l.C6
    ▸ number_printed 2 q.key (ltb→lt q.key 100 (key_fits kind q.key l.C7a))
    ▸ number_printed 3 q.supplement l.C7b
    ▸ number_printed 8 q.sender_bank l.C10
    ▸ number_printed 10 q.sender_account l.C11
    ▸ number_printed 11 q.cents l.C12
    ▸ text_printed q.beneficiary l.C14a
    ▸ text_printed q.sender l.C15
    ▸ text_printed q.purpose l.C16
    ▸ parts_printed 0 _ q.parts l.marks.each l.words

pub payment_formed : (kind : List ℕ) (q : Payment) → LegalPayment kind q → T (formed (cells 0 (record_c (length q.parts))) (payment_fields q))
payment_formed kind q l = printed_formed (cells 0 (record_c (length q.parts))) (payment_fields q) (payment_printed kind q l)

pub payment_clear : (kind : List ℕ) (q : Payment) → LegalPayment kind q → Clear tab (payment_fields q) × Clear line_end (payment_fields q)
payment_clear kind q l = printed_clear (cells 0 (record_c (length q.parts))) (payment_fields q) (payment_printed kind q l)

-- two fields are printed for each part
pub part_fields_lem : (ps : List Part) → length (part_fields ps) ≡ 2 * length ps
part_fields_lem [] = refl
part_fields_lem (q ∷ qs) = let i = part_fields_lem qs in omega arith

-- the number of printed fields tells the number of parts
pub parts_counted : (q : Payment) → length q.parts ≤ 15 → parts_of (length (ascii "C" ∷ payment_fields q)) ≡ length q.parts
parts_counted q h = let i = part_fields_lem q.parts in omega arith

-- ---- C with its length

-- a payment that may begin after payments that come to t
pub record Next (kind : List ℕ) (t : Totals) (q : Payment) : Type 0 where
  pub may : t.count < most_payments
  pub good : GoodPayment kind t (length_of (length q.parts)) q

module _ (kind : List ℕ) (t : Totals) where
  next_fill : (q : Payment) → Next kind t q → Filling (whole_payment kind t) q (write_payment q)
  next_fill q n =
      let k = length q.parts in
      let l : ℕ = length_of k in
      let g = n.good in
      let few = few_parts kind q g.legal in
      let f = (payment_says kind t l).fill q g in
      (((l, lt→ltb l (10 ^ 4) (omega arith), payment_begins t k few n.may (below_top g)), f.0), f.1, ap (λ (b : List ℕ). numeral 4 l ++ b) f.2)

  next_told : (r : Filled (whole_payment kind t)) → Told (Next kind t) write_payment (value (whole_payment kind t) r) (bytes (whole_payment kind t) r)
  next_told r =
      let l : ℕ = r.0.0 in
      let d = (payment_says kind t l).told r.1 in
      let q = d.0 in
      let g = d.1 in (
        q,
        record {
          may = may_begin t l (λ e. omega (arith, g.long, e)) r.0.2;
          good = subst (λ (n : ℕ). GoodPayment kind t n q) (sym g.long) g;
        },
        d.2,
        rw (d.3, g.long),
      )

  next_says : Says (whole_payment kind t) (Next kind t) write_payment
  next_says = record { fill = next_fill; told = next_told }

-- ---- the line

pub payment_composes : (kind : List ℕ) (t : Totals) (p : ℕ) (q : Payment) → t.count < most_payments
    → GoodPayment kind t (length_of (length q.parts)) q → compose_payment kind t p (ascii "C" ∷ payment_fields q) ≡ made q
unfolding compose_payment
payment_composes kind t p q m g =
    let l = g.legal in
    let k = length q.parts in
    ap (λ (n : ℕ). compose_line (whole_payment kind t) (ascii "C") (record_c n) p (ascii "C" ∷ payment_fields q)) (parts_counted q (few_parts kind q l))
    ∙ line_composes (whole_payment kind t) (Next kind t) write_payment (next_says kind t) (ascii "C") (record_c k) p (payment_fields q) q
    (payment_formed kind q l) (record { may = m; good = g }) (payment_laid kind q l)

pub record PaymentHeard (kind : List ℕ) (t : Totals) (ts : List (List ℕ)) (q : Payment) : Type 0 where
  pub may : t.count < most_payments
  pub good : GoodPayment kind t (length_of (length q.parts)) q
  pub fields : ts ≡ ascii "C" ∷ payment_fields q
  pub parts : parts_of (length ts) ≡ length q.parts

-- a record with k parts that begins with a payment begins with its C1, so that the payment has k parts
same_parts : (k : ℕ) (ts : List (List ℕ)) (q : Payment) (rest : List ℕ) → k ≤ 15 → length q.parts ≤ 15
    → lay (record_c k) ts ≡ write_payment q ++ rest → k ≡ length q.parts
same_parts k ts q rest h i e =
    let j = length q.parts in
    let c : numeral 4 (length_of k) ≡ numeral 4 (length_of j)
    = sym (lay_first 4 (numeral 4 (length_of k)) (drop 1 (record_c k)) ts (numeral_length 4 (length_of k)))
    ∙ ap (take 4) (e ∙ append_assoc (numeral 4 (length_of j)) (write_body q) rest)
    ∙ take_at (numeral 4 (length_of j)) (write_body q ++ rest) 4 (numeral_length 4 (length_of j)) in
    let l : length_of k ≡ length_of j
    = sym (number_numeral 4 (length_of k) (omega arith)) ∙ ap number c ∙ number_numeral 4 (length_of j) (omega arith) in
    omega arith

-- a line that was composed to q, its record made with as many parts as q has, has the fields of q
heard_fields : (kind : List ℕ) (t : Totals) (ts : List (List ℕ)) (q : Payment)
    → Heard (Next kind t) write_payment (ascii "C") (record_c (length q.parts)) ts q → ts ≡ ascii "C" ∷ payment_fields q
heard_fields kind t ts q x =
    let l = x.legal.good.legal in
    let ps = record_c (length q.parts) in
    let laid : lay ps x.fields ≡ lay ps (payment_fields q) ++ x.rest
    = x.laid ∙ ap (λ (b : List ℕ). b ++ x.rest) (sym (payment_laid kind q l)) in
    let same = lay_begins ps x.fields (payment_fields q) x.rest x.formed (payment_formed kind q l) laid in
    x.line ∙ ap (λ (us : List (List ℕ)). ascii "C" ∷ us) same

pub payment_heard : (kind : List ℕ) (t : Totals) (p : ℕ) (ts : List (List ℕ)) (q : Payment) → compose_payment kind t p ts ≡ made q
    → PaymentHeard kind t ts q
unfolding compose_payment
payment_heard kind t p ts q e =
    let k = parts_of (length ts) in
    let x = line_heard (whole_payment kind t) (Next kind t) write_payment (next_says kind t) (ascii "C") (record_c k) p ts q e in
    let few = few_parts kind q x.legal.good.legal in
    let j : k ≡ length q.parts = same_parts k x.fields q x.rest (omega arith) few x.laid in
    record {
      may = x.legal.may;
      good = x.legal.good;
      fields = heard_fields kind t ts q (subst (λ (n : ℕ). Heard (Next kind t) write_payment (ascii "C") (record_c n) ts q) j x);
      parts = j;
    }
