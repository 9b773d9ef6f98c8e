-- The layout: A and E take 128 bytes, a payment takes 128 for each of its sections, and a section with no part in it is not written. So a
-- payment takes 256 at least, and a file 256 and those of its payments.
use Prim.Native.Nat.{ℕ, suc, ◌+◌, ◌-◌, ◌*◌, ◌/◌, ◌≤◌, ◌<◌}
use native.Mathlib.Omega.{arith}
use mathlib.Core.Path.{◌≡◌, refl}
use mathlib.Core.Bool.{Bool, true, false, cond}
use mathlib.Core.Option.{Option, none, some}
use mathlib.Core.List.{List, [], ◌∷◌, ◌++◌}
use lib.ListN.{length, length-append, length-replicate}
use lib.Dec.{leb}
use Rattle.form.proofs.BelowLaws.{below, agree}
use Rattle.form.proofs.KindLaws.{numeral_length}
use Rattle.document.specs.Calendar.{Day}
use Rattle.document.specs.Values.{Header, Part, Payment, Document, Totals, totals}
use Rattle.document.specs.Rules.{All, Text, LegalHeader, LegalPayment, Legal}
use Rattle.document.specs.Medium.{all_payments}
use Rattle.diskette.specs.Writing.{section, to_section_end, to_next_part, write_execution, write_header, write_parts, write_payment, write_payments, write_end, write}
use Rattle.diskette.specs.Medium.{write_medium}
use Rattle.document.proofs.FieldLaws.{kind_length}
use Rattle.diskette.proofs.PaymentSays.{few_parts}

pub execution_length : (e : Option Day) → length (write_execution e) ≡ 8
execution_length none = refl
execution_length (some d) = numeral_length 8 _

pub header_length : (h : Header) → LegalHeader h → length (write_header h) ≡ 128
header_length h l =
    simp (length-append, numeral_length, execution_length) (omega (arith, kind_length h.file_kind l.A3, l.A6.long))

pub end_length : (t : Totals) → length (write_end t) ≡ 128
end_length t = simp (length-append, numeral_length) (omega arith)

-- ---- the parts

-- the bytes of a payment through part i
through : ℕ → ℕ
through i = 128 * section i - to_section_end i

part_step : (i : ℕ) → i < 15 → through (suc i) ≡ through i + to_next_part i + 29
unfolding through to_section_end to_next_part below
part_step i h = agree (λ i. through (suc i)) (λ i. through i + to_next_part i + 29) 15 i refl h

closed : (i : ℕ) → i < 16 → through i + to_section_end i ≡ 128 * section i
unfolding through to_section_end below
closed i h = agree (λ i. through i + to_section_end i) (λ i. 128 * section i) 16 i refl h

parts_length : (i : ℕ) (ps : List Part) → i + length ps ≤ 15 → All (λ (q : Part). Text q.words) ps → through i + length (write_parts i ps) ≡ 128 * section (i + length ps)
parts_length i [] h a = let e : i + 0 ≡ i = omega arith in rw (e, length-replicate {A = ℕ} (to_section_end i) 0x20) (closed i (omega arith))
parts_length i (q ∷ qs) h a =
    let e : i + suc (length qs) ≡ suc i + length qs = omega arith in
    let s = parts_length (suc i) qs (omega arith) a.1 in
    let w = a.0.long in
    rw e (simp (length-append, numeral_length, length-replicate) (omega (arith, part_step i (omega arith))))

-- 0 to 2 parts give 256 bytes, 3 to 6 give 384, 7 to 10 give 512, 11 to 14 give 640, 15 give 768
pub payment_length : (kind : List ℕ) (p : Payment) → LegalPayment kind p → length (write_payment p) ≡ 128 * section (length p.parts)
unfolding through to_section_end
payment_length kind p l =
    let k = length p.parts in
    let e : 0 + k ≡ k = omega arith in
    let s : 187 + length (write_parts 0 p.parts) ≡ 128 * section k = rw e at (parts_length 0 p.parts (omega (arith, few_parts kind p l)) l.words) in
    simp (length-append, numeral_length) (omega (arith, l.C14a.long, l.C15.long, l.C16.long))

-- ---- the least that they take

two_sections : (k : ℕ) → 2 ≤ section k
two_sections k = by (leb k 2) ((k - 3) / 4)
  where
    by : (b : Bool) (n : ℕ) → 2 ≤ cond b 2 (3 + n)
    by true n = omega arith
    by false n = omega arith

payments_take : (kind : List ℕ) (ps : List Payment) → All (LegalPayment kind) ps → 256 * length ps ≤ length (write_payments ps)
payments_take kind [] l = omega arith
payments_take kind (p ∷ ps) l =
    let n = two_sections (length p.parts) in
    omega (arith, payment_length kind p l.0, length-append (write_payment p) (write_payments ps), payments_take kind ps l.1)

pub file_takes : (d : Document) → Legal d → 256 + 256 * length d.payments ≤ length (write d)
file_takes d l =
    let a = write_header d.header in
    let c = write_payments d.payments in
    let e = write_end (totals d.payments) in
    let records : length (write d) ≡ length a + (length c + (length e + 0)) = rw (length-append a (c ++ (e ++ [])), length-append c (e ++ []), length-append e []) in
    omega (arith, records, header_length d.header l.header, end_length (totals d.payments), payments_take d.header.file_kind d.payments l.payments)

pub medium_takes : (ds : List Document) → All Legal ds → 256 * length ds + 256 * length (all_payments ds) ≤ length (write_medium ds)
medium_takes [] l = omega arith
medium_takes (d ∷ ds) l =
    omega (arith, file_takes d l.0, medium_takes ds l.1, length-append d.payments (all_payments ds), length-append (write d) (write_medium ds))
