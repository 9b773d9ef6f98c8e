-- Records written into the output one after another, from the lines of a listing that was accepted.
-- The loop keeps `Putting`: the records of the first `row` payments stand in the output behind A, and the lines from p on are composed to the
-- payments still to come. Because that is so, the line at p is ended and composing makes the next payment of it (`next`); its record, laid out
-- from the line, is then the payment written out (`line_written`), and put behind the others it is one more (`putting_more`, by `over_next`).
-- The code looks for the line's end and counts fields only behind the numbers, which stand at fixed places: that this gives the end and the
-- fields of the whole line is `texts_end` and `texts_counted`.
use Prim.Native.Nat.{ℕ, zero, suc, ◌+◌, ◌-◌, ◌*◌, ◌≤◌, ◌<◌, min}
use native.Mathlib.Nat.{add_assoc, zero-add}
use native.Mathlib.Omega.{arith}
use mathlib.Core.Path.{◌≡◌, refl, sym, ap, ap₂, ◌∙◌, subst}
use mathlib.Core.Logic.{◌≢◌}
use mathlib.Core.Bool.{true, false}
use mathlib.Core.List.{List, [], ◌∷◌, ◌++◌, append_assoc, append-nil}
use lib.ListN.{length, take, drop, length-append, length-drop, take-append-drop, drop_of_length-le}
use lib.Seq.{drop-drop, length-take-le, take_all, take-nil}
use lib.Dec.{leb}
use borrow.Rule.Slice.PartMut.{put_mid, Post-is}
use Rattle.form.proofs.BoolLaws.{is_true}
use Rattle.verdict.specs.Verdicts.{refusing}
use Rattle.document.specs.Marks.{most_parts}
use Rattle.document.specs.Values.{Header, Payment, Document, Totals, no_totals, adding}
use Rattle.diskette.specs.Writing.{section, write_header, write_payment, write_payments}
use Rattle.diskette.proofs.LayoutLaws.{payment_length}
use Rattle.listing.specs.Lines.{tab, line_end, split, empty}
use Rattle.listing.specs.Listing.{payment_fields}
use Rattle.listing.specs.Records.{record_a, record_c, fields_of_header_line, numbers_of_payment_line, fields_with, lay, cells, formed}
use Rattle.listing.specs.Composing.{Composed, made, provided, compose_header, compose_payment, compose_payments, compose}
use Rattle.listing.proofs.ComposingLaws.{provided_made, and_then_made}
use Rattle.listing.proofs.HeaderLaws.{header_heard, header_laid, header_formed}
use Rattle.listing.proofs.PaymentLaws.{payment_heard, payment_laid, payment_formed}
use Rattle.output.specs.Writing.{over}
use Rattle.layout.specs.Lines as line
use Rattle.layout.specs.Cells.{cells_of}
use Rattle.line_reader.specs.Reaching.{reach}
use Rattle.output.proofs.OverLaws.{over_next, over_length, over_nothing}
use Rattle.composer.specs.Telling.{line_formed, behind_letter, FormedLine, lines_parts, PaymentLine}
use Rattle.composer.specs.Writing.{composed_payments, AcceptedListing}
use Rattle.layout.proofs.CellLaws.{fields_first}
use Rattle.composer.proofs.WalkLaws.{formed_count}
use Rattle.composer.proofs.FormLaws.{all_fields}
use Rattle.composer.proofs.WideLaws.{texts_inside, texts_behind}
use Rattle.composer.proofs.ByteLaws.{reach_behind, rest_from}
use Rattle.composer.proofs.ToldLaws.{few, min_is}
use Rattle.composer.proofs.FirstLineLaws.{made_lines}
use Rattle.composer.proofs.StepLaws.{line_to, line_inside, last_piece, line_within, here, step}

-- ---- a part of the output that was lent and is back

pub part_over : (p n : ℕ) (new old : List ℕ) → length new ≡ n → put_mid p (p + n - p) old new ≡ over p new old
part_over p n new old e =
    ap (λ rest. take p old ++ (new ++ rest)) (Post-is p (p + n) old (omega arith) ∙ ap (λ m. drop (p + m) old) (sym e))

pub part_long : (p n : ℕ) (old : List ℕ) → p + n ≤ length old → length (take (p + n - p) (drop p old)) ≡ n
part_long p n old h =
    let m : p + n - p ≡ n = omega arith in
    let d = length-drop p old in
    ap (λ k. length (take k (drop p old))) m ∙ length-take-le n (drop p old) (omega arith)

-- ---- the line of a payment

-- the bytes in the file of the payment that the line x tells, by the number k of its parts
pub bytes_told : (x : List ℕ) {k bytes : ℕ} → k ≡ lines_parts x → bytes ≡ 128 * section (min k most_parts) → bytes ≡ 128 * section (lines_parts x)
bytes_told x parts e = e ∙ ap (λ n. 128 * section n) (min_is _ (omega (arith, parts, few (length (split tab x)))) ∙ parts)

-- the line x has its form, and the record laid out from it is the payment q written out
pub record Written (x : List ℕ) (q : Payment) : Type 0 where
  pub form : PaymentLine x
  pub bytes : lay (record_c (lines_parts x)) (behind_letter (split tab x)) ≡ write_payment q
  pub size : 128 * section (lines_parts x) ≡ length (write_payment q)

pub line_written : (letters : List ℕ) (t : Totals) (p : ℕ) (x : List ℕ) (q : Payment) → compose_payment letters t p (split tab x) ≡ made q → Written x q
line_written letters t p x q e =
    let h = payment_heard letters t p (split tab x) q e in
    let legal = h.good.legal in
    let f : formed (take (fields_with (lines_parts x)) (cells_of false)) (payment_fields q) ≡ true
    = ap (λ cs. formed cs (payment_fields q)) (sym (fields_first (lines_parts x) (few (length (split tab x)))) ∙ ap (λ k. cells 0 (record_c k)) h.parts)
    ∙ is_true _ (payment_formed letters q legal) in
    let m = few (length (split tab x)) in
    record {
      form = (omega arith, (omega arith, ap (line_formed false (fields_with (lines_parts x))) h.fields ∙ f));
      bytes = ap₂ (λ k ts. lay (record_c k) (behind_letter ts)) h.parts h.fields ∙ payment_laid letters q legal;
      size = ap (λ k. 128 * section k) h.parts ∙ sym (payment_length letters q legal);
    }

-- ---- the line of A

pub head_written : (x : List ℕ) (h : Header) → compose_header (split tab x) ≡ made h → FormedLine true fields_of_header_line x × (lay record_a (behind_letter (split tab x)) ≡ write_header h)
head_written x h e =
    let g = header_heard (split tab x) h e in (
      (omega arith, (omega arith, ap (line_formed true fields_of_header_line) g.1 ∙ is_true _ (header_formed h g.0))),
      ap (λ ts. lay record_a (behind_letter ts)) g.1 ∙ header_laid h g.0,
    )

-- ---- payments

written_more : (ps : List Payment) (row : ℕ) (q : Payment) (qs : List Payment) → drop row ps ≡ q ∷ qs
    → write_payments (take (row + 1) ps) ≡ write_payments (take row ps) ++ write_payment q
written_more [] row q qs e = let none : [] ≡ q ∷ qs = sym (drop_of_length-le [] {i = row} (omega arith)) ∙ e in absurd cc
written_more (x ∷ xs) zero q qs e = let same : x ≡ q = cc in append-nil (write_payment x) ∙ ap write_payment same
written_more (x ∷ xs) (suc row) q qs e =
    let n : suc row + 1 ≡ suc (row + 1) = omega arith in
    rw n (ap (λ bytes. write_payment x ++ bytes) (written_more xs row q qs e) ∙ sym (append_assoc (write_payment x) (write_payments (take row xs)) (write_payment q)))

dropped_more : (ps : List Payment) (row : ℕ) (q : Payment) (qs : List Payment) → drop row ps ≡ q ∷ qs → drop (row + 1) ps ≡ qs
dropped_more ps row q qs e = sym (drop-drop 1 row ps) ∙ ap (drop 1) e

-- the first `row` of the payments are written, and the line at p is that of the next
pub record Putting (l old : List ℕ) (ps : List Payment) (out : List ℕ) (row p at : ℕ) : Type 0 where
  pub letters : List ℕ
  pub before : Totals
  pub told : compose_payments letters before p (split line_end (drop p l)) ≡ made (drop row ps)
  pub inside : p ≤ length l
  pub room : 128 + length (write_payments ps) ≤ length old
  pub place : at ≡ 128 + length (write_payments (take row ps))
  pub long : length out ≡ length old
  pub holds : out ≡ over 128 (write_payments (take row ps)) old

-- ---- one payment more

made_same : {x y : Payment} {xs ys : List Payment} → ◌≡◌ {A = Composed (List Payment)} (made (x ∷ xs)) (made (y ∷ ys)) → (x ≡ y) × (xs ≡ ys)
made_same e = (cc, cc)

some_left : {A : Type 0} (xs : List A) (n : ℕ) → n < length xs → (x : A) × (ys : List A) × (drop n xs ≡ x ∷ ys)
some_left [] n h = absurd (omega arith)
some_left (x ∷ xs) zero h = (x, xs, refl)
some_left (x ∷ xs) (suc n) h = some_left xs n (omega arith)

all_written : (ps : List Payment) (row : ℕ) → length (write_payments ps) ≡ length (write_payments (take row ps)) + length (write_payments (drop row ps))
all_written ps row = ap (λ (xs : List Payment). length (write_payments xs)) (sym (take-append-drop row ps)) ∙ apart (take row ps) (drop row ps)
  where
    apart : (xs ys : List Payment) → length (write_payments (xs ++ ys)) ≡ length (write_payments xs) + length (write_payments ys)
    apart [] ys = sym (zero-add (length (write_payments ys)))
    apart (x ∷ xs) ys =
        length-append (write_payment x) (write_payments (xs ++ ys)) ∙ ap (λ n. length (write_payment x) + n) (apart xs ys)
        ∙ sym (add_assoc (length (write_payment x)) (length (write_payments xs)) (length (write_payments ys)))
        ∙ ap (λ n. n + length (write_payments ys)) (sym (length-append (write_payment x) (write_payments xs)))

module _ {l old : List ℕ} {ps : List Payment} {out : List ℕ} {row p at : ℕ} (putting : Putting l old ps out row p at) (left : row < length ps)
    (e : ℕ) (ends : e ≡ p + reach line_end (drop p l)) where
  -- the payment whose line stands at p
  pub record Next : Type 0 where
    pub payment : Payment
    pub others : List Payment
    pub coming : drop row ps ≡ payment ∷ others
    pub more : e ≢ length l
    pub composed : compose_payment putting.letters putting.before p (split tab (line_to l p e)) ≡ made payment
    pub rest : compose_payments putting.letters (adding putting.before payment) (e + 1) (split line_end (drop (e + 1) l)) ≡ made others

  not_last : (q : Payment) (qs : List Payment) → compose_payments putting.letters putting.before p (split line_end (drop p l)) ≡ made (q ∷ qs) → e ≢ length l
  unfolding compose_payments
  not_last q qs all last =
      let letters = putting.letters in
      let t = putting.before in
      let f : compose_payments letters t p (drop p l ∷ []) ≡ made (q ∷ qs) = ap (compose_payments letters t p) (sym (last_piece l p e putting.inside ends last)) ∙ all in
      let g = provided_made (empty (drop p l)) (refusing 17 p) (provided (leb 1 t.count) (refusing 18 p) (made [])) (q ∷ qs) f in
      let h = provided_made (leb 1 t.count) (refusing 18 p) (made []) (q ∷ qs) g.1 in
      let none = h.1 in
      cc

  pub next : Next
  next =
      let letters = putting.letters in
      let t = putting.before in
      let s = some_left ps row left in
      let all : compose_payments letters t p (split line_end (drop p l)) ≡ made (s.0 ∷ s.1) = putting.told ∙ ap made s.2 in
      let more : e ≢ length l = not_last s.0 s.1 all in
      let c = and_then_made (here l p e putting.inside ends more letters t) _ (s.0 ∷ s.1) (sym (step l p e putting.inside ends more letters t) ∙ all) in
      let d = and_then_made (compose_payments letters (adding t c.0) (e + 1) (split line_end (drop (e + 1) l))) _ (s.0 ∷ s.1) c.2 in
      let same = made_same d.2 in
      record {
        payment = c.0;
        others = s.1;
        coming = s.2 ∙ ap (λ q. q ∷ s.1) (sym same.0);
        more = more;
        composed = c.1;
        rest = d.1 ∙ ap made same.1;
      }

  module _ (n : Next) (w : Written (line_to l p e) n.payment) where
    -- there is room for the record of the next payment
    pub next_room : at + 128 * section (lines_parts (line_to l p e)) ≤ length out
    next_room =
        let a = all_written ps row in
        let b = ap (λ (xs : List Payment). length (write_payments xs)) n.coming ∙ length-append (write_payment n.payment) (write_payments n.others) in
        let c = w.size in
        let d = putting.place in
        let f = putting.long in
        let g = putting.room in
        omega arith

    pub putting_more : {new : List ℕ} {end : ℕ} → end ≡ at + 128 * section (lines_parts (line_to l p e)) → new ≡ over at (lay (record_c (lines_parts (line_to l p e))) (behind_letter (split tab (line_to l p e)))) out
        → Putting l old ps new (row + 1) (e + 1) end
    putting_more {new} i o =
        let done = write_payments (take row ps) in
        let record_of = write_payment n.payment in
        let some : write_payments (take (row + 1) ps) ≡ done ++ record_of = written_more ps row n.payment n.others n.coming in
        let fits : 128 + (length done + length record_of) ≤ length old
        = let r = next_room in let c = w.size in let d = putting.place in let f = putting.long in omega arith in
        let holds : new ≡ over 128 (done ++ record_of) old
        = o ∙ ap₂ (λ b m. over m b out) w.bytes putting.place ∙ ap (over (128 + length done) record_of) putting.holds ∙ over_next 128 done record_of old fits in
        record {
          letters = putting.letters;
          before = adding putting.before n.payment;
          told = n.rest ∙ ap made (sym (dropped_more ps row n.payment n.others n.coming));
          inside = let v = line_within l p e putting.inside ends n.more in omega arith;
          room = putting.room;
          place = i ∙ rw (some, length-append done record_of) (let c = w.size in let d = putting.place in omega arith);
          long = ap length holds ∙ over_length 128 (done ++ record_of) old (omega (arith, length-append done record_of, fits));
          holds = holds ∙ ap (λ b. over 128 b old) (sym some);
        }

drop_take : (m n : ℕ) (l : List ℕ) → drop m (take n l) ≡ take (n - m) (drop m l)
drop_take zero n l = let e : n - 0 ≡ n = omega arith in rw e
drop_take (suc m) zero l = let e : 0 - suc m ≡ 0 = omega arith in rw e
drop_take (suc m) (suc n) [] = sym (take-nil (suc n - suc m))
drop_take (suc m) (suc n) (x ∷ xs) = let e : suc n - suc m ≡ n - m = omega arith in rw e (drop_take m n xs)

-- the texts of the line at p stand behind the numbers: where they end the line does, and all fields but the letter and the numbers stand there
module _ {l old : List ℕ} {ps : List Payment} {out : List ℕ} {row p at : ℕ} (putting : Putting l old ps out row p at) (left : row < length ps) where
  abbrev end : ℕ
  end = p + reach line_end (drop p l)

  coming : Next putting left end refl
  coming = next putting left end refl

  form : PaymentLine (line_to l p end)
  form = (line_written putting.letters putting.before p (line_to l p end) coming.payment coming.composed).form

  abbrev fields_there : ℕ
  fields_there = fields_with (lines_parts (line_to l p end))

  ahead : line.texts ≤ reach line_end (drop p l)
  ahead =
      let h = texts_inside fields_there (line_to l p end) form (omega arith) in
      let i = line_inside l p end putting.inside refl in
      let n : length (line_to l p end) ≡ end - p = length-take-le (end - p) (drop p l) (omega (arith, length-drop p l)) in
      omega arith

  pub texts_end : p + line.texts + reach line_end (drop (p + line.texts) l) ≡ p + reach line_end (drop p l)
  texts_end = omega (arith, reach_behind line_end l p line.texts ahead)

  pub texts_within : p + line.texts + reach line_end (drop (p + line.texts) l) < length l
  texts_within = omega (arith, texts_end, line_within l p end putting.inside refl coming.more)

  -- the fields of the line: the letter, the numbers, and those counted behind them
  pub texts_counted : (e n : ℕ) → e ≡ end → n ≡ length (split tab (rest_from l (p + line.texts))) → suc numbers_of_payment_line + n ≡ length (split tab (line_to l p e))
  texts_counted e n i c =
      let m : end - p - line.texts ≡ reach line_end (drop (p + line.texts) l) = omega (arith, texts_end) in
      let rest : drop line.texts (line_to l p end) ≡ rest_from l (p + line.texts)
      = drop_take line.texts (end - p) (drop p l) ∙ ap₂ (λ (k : ℕ) (x : List ℕ). take k x) m (drop-drop line.texts p l) in
      let all = texts_behind fields_there (line_to l p end) form (omega arith) in
      ap (λ k. suc numbers_of_payment_line + k) (c ∙ ap (λ (x : List ℕ). length (split tab x)) (sym rest)) ∙ sym all ∙ ap (λ k. length (split tab (line_to l p k))) (sym i)

  pub texts_few : (e n : ℕ) → e ≡ end → n ≡ length (split tab (rest_from l (p + line.texts))) → suc numbers_of_payment_line + n ≤ suc (fields_with most_parts)
  texts_few e n i c =
      let x = line_to l p end in
      let k = few (length (split tab x)) in
      omega (arith, texts_counted end n refl c, all_fields x, formed_count false fields_there x form)

-- ---- all payments

pub payments_are : (l : List ℕ) {d : Document} → compose l ≡ made d → composed_payments (compose l) ≡ d.payments
unfolding composed_payments
payments_are l e = ap composed_payments e

pub counted : {l : List ℕ} {start n size : ℕ} (accepted : AcceptedListing l start n size) → n ≡ length (composed_payments (compose l))
counted {l} accepted = accepted.count ∙ ap length (sym (payments_are l accepted.told))

pub putting_first : {l : List ℕ} {start n : ℕ} (old : List ℕ) → AcceptedListing l start n (length old) → Putting l old (composed_payments (compose l)) old 0 start 128
putting_first {l} old accepted =
    let m = made_lines l accepted.document accepted.told in
    let w = m.within in
    let s = accepted.begins in
    let letters = accepted.document.header.file_kind in
    record {
      letters = letters;
      before = no_totals;
      told = ap (λ p. compose_payments letters no_totals p (split line_end (drop p l))) s ∙ m.rest ∙ ap made (sym (payments_are l accepted.told));
      inside = omega arith;
      room = subst (λ ps. 128 + length (write_payments ps) ≤ length old) (sym (payments_are l accepted.told)) accepted.room;
      place = refl;
      long = refl;
      holds = sym (over_nothing 128 old);
    }

pub all_put : {l old : List ℕ} {ps : List Payment} {out : List ℕ} {row p at : ℕ} → Putting l old ps out row p at → length ps ≤ row
    → (at ≡ 128 + length (write_payments ps)) × (out ≡ over 128 (write_payments ps) old)
all_put {old = old} {ps = ps} {row = row} w h =
    let all : take row ps ≡ ps = take_all row ps h in
    (w.place ∙ ap (λ xs. 128 + length (write_payments xs)) all, w.holds ∙ ap (λ xs. over 128 (write_payments xs) old) all)
