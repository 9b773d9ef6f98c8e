-- The file of a listing that was accepted: A, the payments and E, written one after another.
-- The document of such a listing is legal (`composed_listing`): so A takes 128 bytes, as E does, the figures have room in E, and the room for
-- the file is the room for all three. The output is followed through the three writings: it begins with A (`behind_first`), then with A and the
-- payments (`behind_payments`), then with the file (`file_written`), each stretch written right behind the one before it (`over_next`).
use Prim.Native.Nat.{ℕ, ◌+◌, ◌-◌, ◌*◌, ◌≤◌, ◌<◌}
use native.Mathlib.Omega.{arith}
use native.Mathlib.Nat.{zero-add}
use mathlib.Core.Path.{◌≡◌, sym, ap, ap₂, ◌∙◌, subst}
use mathlib.Core.Bool.{true}
use mathlib.Core.List.{List, [], ◌∷◌, ◌++◌, append_assoc, append-nil}
use lib.ListN.{length, take, drop, length-append}
use borrow.Rule.Slice.PartMut.{put_mid}
use Rattle.verdict.specs.Lent.{filled}
use Rattle.document.specs.Marks.{most_parts}
use Rattle.document.specs.Values.{Payment, Document, Totals, totals}
use Rattle.document.specs.Rules.{All, Legal, LegalPayment}
use Rattle.diskette.specs.Writing.{section, write_header, write_payment, write_payments, write_end, write}
use Rattle.diskette.proofs.PaymentSays.{few_parts}
use Rattle.diskette.proofs.LayoutLaws.{header_length, payment_length, end_length}
use Rattle.listing.specs.Lines.{tab, line_end, split}
use Rattle.listing.specs.Records.{record_a, fields_of_header_line, lay}
use Rattle.listing.specs.Composing.{compose_header, compose}
use Rattle.listing.specs.Endings.{composed, written}
use Rattle.listing.proofs.Promises.{composed_listing}
use Rattle.output.specs.Writing.{over}
use Rattle.line_reader.specs.Reaching.{reach}
use Rattle.output.proofs.OverLaws.{over_first, over_length, over_next}
use Rattle.composer.specs.Telling.{FormedLine, behind_letter}
use Rattle.composer.specs.Writing.{Writable, composed_payments, AcceptedListing, Ready}
use Rattle.composer.proofs.ToldLaws.{longest, min_is}
use Rattle.composer.proofs.FirstLineLaws.{made_lines}
use Rattle.composer.proofs.WritingLaws.{part_over, head_written, payments_are}

-- ---- the file's length

pub file_length : (d : Document) → Legal d → length (write d) ≡ 256 + length (write_payments d.payments)
file_length d g =
    let h = header_length d.header g.header in
    let e = end_length (totals d.payments) in
    let a = length-append (write_header d.header) (write_payments d.payments ++ (write_end (totals d.payments) ++ [])) in
    let b = length-append (write_payments d.payments) (write_end (totals d.payments) ++ []) in
    let c = ap length (append-nil (write_end (totals d.payments))) in
    omega arith

-- no payment is longer than one with the most parts
pub payments_small : (kind : List ℕ) (ps : List Payment) → All (LegalPayment kind) ps → length (write_payments ps) ≤ 128 * section most_parts * length ps
payments_small kind [] a = omega arith
payments_small kind (p ∷ ps) a =
    let n = length-append (write_payment p) (write_payments ps) in
    let m = payment_length kind p a.0 ∙ ap (λ k. 128 * section k) (sym (min_is (length p.parts) (few_parts kind p a.0))) in
    let o = longest (length p.parts) in
    let i = payments_small kind ps a.1 in
    omega arith

-- ---- the file's records

module _ {l : List ℕ} {t : Totals} {size : ℕ} (ready : Ready l t size) where
  abbrev d : Document
  d = ready.document

  legal : Legal d
  legal = (composed_listing l d ready.told).0

  pub writable : Writable t
  writable =
      let g = legal in
      subst Writable (sym ready.totals) (
      record { count = omega (arith, g.count); accounts = g.accounts; bank_codes = g.bank_codes; cents = omega (arith, g.cents) }
      )

  pub room : 256 + length (write_payments d.payments) ≤ size
  room = let r = ready.room in let e = file_length d legal in omega arith

  -- the first line ends at e
  module _ {e : ℕ} (ends : e ≡ 0 + reach line_end l) where
    end_is : e ≡ reach line_end l
    end_is = ends ∙ zero-add (reach line_end l)

    pub line_within : e < length l
    line_within = let w = (made_lines l d ready.told).within in let i = end_is in omega arith

    pub head_is : FormedLine true fields_of_header_line (take e l) × (lay record_a (behind_letter (split tab (take e l))) ≡ write_header d.header)
    head_is = head_written (take e l) d.header (ap (λ n. compose_header (split tab (take n l))) end_is ∙ (made_lines l d ready.told).head)

    -- the payments' lines stand behind the first line
    pub payments_accepted : {rest : ℕ} → rest ≡ size → AcceptedListing l (e + 1) t.count rest
    payments_accepted same =
        record {
          document = d;
          told = ready.told;
          begins = ap (λ n. n + 1) end_is;
          count = ap (λ (u : Totals). u.count) ready.totals;
          room = let r = room in omega arith;
        }

-- ---- the records one behind the other

module _ {l : List ℕ} {t : Totals} (old : List ℕ) (ready : Ready l t (length old)) {e : ℕ} (ends : e ≡ 0 + reach line_end l)
    {first : List ℕ} (laid : first ≡ lay record_a (behind_letter (split tab (take e l)))) where
  abbrev header : List ℕ
  header = write_header ready.document.header

  abbrev payments : List ℕ
  payments = write_payments ready.document.payments

  first_is : first ≡ header
  first_is = laid ∙ (head_is ready ends).1

  header_long : length header ≡ 128
  header_long = header_length ready.document.header (composed_listing l ready.document ready.told).0.header

  -- once A is written, the output begins with it
  behind_first : first ++ drop 128 old ≡ over 0 header old
  behind_first = ap₂ (λ f n. f ++ drop n old) first_is (sym header_long) ∙ sym (over_first header old)

  pub first_long : length (first ++ drop 128 old) ≡ length old
  first_long = let r = room ready in let h = header_long in ap length behind_first ∙ over_length 0 header old (omega arith)

  module _ {end : ℕ} {out : List ℕ} (place : end ≡ 128 + length (write_payments (composed_payments (compose l))))
      (holds : out ≡ over 128 (write_payments (composed_payments (compose l))) (first ++ drop 128 old)) where
    same_payments : write_payments (composed_payments (compose l)) ≡ payments
    same_payments = ap write_payments (payments_are l ready.told)

    -- once the payments are written, the output begins with A and the payments
    behind_payments : out ≡ over 0 (header ++ payments) old
    behind_payments =
        let h = header_long in
        let r = room ready in
        holds ∙ ap₂ (λ n b. over n b (first ++ drop 128 old)) (sym header_long ∙ sym (zero-add (length header))) same_payments
        ∙ ap (over (0 + length header) payments) behind_first ∙ over_next 0 header payments old (omega arith)

    pub out_long : length out ≡ length old
    out_long = let h = header_long in let r = room ready in ap length behind_payments ∙ over_length 0 (header ++ payments) old (omega (arith, length-append header payments))

    end_at_lem : end ≡ length (header ++ payments)
    end_at_lem = place ∙ ap (λ b. 128 + length b) same_payments ∙ ap (λ n. n + length payments) (sym header_long) ∙ sym (length-append header payments)

    pub end_room : end + 128 ≤ length out
    end_room = let h = header_long in let r = room ready in let a = end_at_lem in let b = length-append header payments in let o = out_long in omega arith

    whole : (header ++ payments) ++ write_end (totals ready.document.payments) ≡ write ready.document
    whole =
        append_assoc header payments (write_end (totals ready.document.payments))
        ∙ ap (λ b. header ++ (payments ++ b)) (sym (append-nil (write_end (totals ready.document.payments))))

    written_is : written (composed (compose l)) ≡ write ready.document
    unfolding composed
    written_is = ap (λ c. written (composed c)) ready.told

    pub file_written : {last : List ℕ} → last ≡ write_end t → put_mid end (end + 128 - end) out last ≡ filled (written (composed (compose l))) old
    file_written {last} w =
        let end_is = w ∙ ap write_end ready.totals in
        let long : length last ≡ 128 = ap length end_is ∙ end_length (totals ready.document.payments) in
        let fits = end_room in
        let a = end_at_lem in
        let o = out_long in
        part_over end 128 last out long ∙ ap₂ (λ n f. over n last f) (a ∙ sym (zero-add (length (header ++ payments)))) behind_payments
        ∙ over_next 0 (header ++ payments) last old (omega arith) ∙ over_first ((header ++ payments) ++ last) old
        ∙ ap (λ b. filled b old) (ap (λ b. (header ++ payments) ++ b) end_is ∙ whole ∙ sym written_is)
