-- What the code tells of a line: of any line, of the line of A and of the line of a payment.
-- The code goes as composing is defined: the form first, then the record that the line stands for is laid out and read, and a refused field is
-- named where it stands in the line. So there is one law for a line without its form, one for a record that is refused and one for a record that
-- is read (`line_denied`, `line_refuses`, `line_heard`), and A and a payment have theirs by these. A payment's record depends on the number of
-- parts that its line tells (`as_told`), and that number gives its bytes in the file too (`payment_accepts`).
use Prim.Native.Nat.{ℕ, ◌+◌, ◌-◌, ◌*◌, ◌/◌, ◌≤◌, min}
use native.Mathlib.Omega.{arith}
use mathlib.Core.Path.{◌≡◌, refl, sym, ap, ap₂, ◌∙◌}
use mathlib.Core.Bool.{Bool, true, false, cond}
use mathlib.Core.List.{List, [], ◌∷◌}
use Rattle.std.specs.Prelude.{Ok, Err}
use lib.ListN.{length, take, length-append}
use lib.Dec.{leb}
use Rattle.form.specs.Place.{read_at}
use Rattle.form.specs.Kind.{same}
use Rattle.form.specs.Form.{Form}
use Rattle.form.proofs.BoolLaws.{T_of, and_both}
use Rattle.form.proofs.KindLaws.{same_eq}
use Rattle.verdict.specs.Verdicts.{refusing}
use Rattle.document.specs.Signs.{ascii}
use Rattle.document.specs.Marks.{most_parts}
use Rattle.document.specs.Values.{Totals}
use Rattle.diskette.specs.Writing.{section, write_payment}
use Rattle.diskette.specs.Fields.{header, Name}
use Rattle.diskette.proofs.LayoutLaws.{payment_length}
use Rattle.listing.specs.Records.{record_a, record_c, fields_of_header_line, fields_with, parts_of, lay, Piece, cells}
use Rattle.listing.specs.Composing.{made, heard, compose_line, whole_payment, compose_header, compose_payment, denied}
use Rattle.listing.specs.Lines.{tab, behind_tabs, split}
use Rattle.listing.proofs.PaymentLaws.{payment_heard}
use Rattle.listing.proofs.LineLaws.{line_from}
use Rattle.listing.proofs.NumberLaws.{in_line_lem}
use Rattle.layout.specs.Lines as line
use Rattle.layout.specs.Cells.{letter_of, cells_of}
use Rattle.layout.proofs.CellLaws.{fields_first, letter_long}
use Rattle.fields.specs.declared.Refusal.{Refusal}
use Rattle.fields.specs.Answers.{Reading, refusal_of, of_read, kind_of, Telling}
use Rattle.fields.proofs.WalkLaws.{halts, reads}
use Rattle.sums.specs.declared.Sums.{Sums}
use Rattle.header.specs.declared.Header.{Header}
use Rattle.header.specs.Heading.{headers}
use Rattle.payment.specs.Adding.{with_payment, payments_on}
use Rattle.composer.specs.Telling.{line_formed, behind_letter, place_in, head_told, payment_told, FormedLine, tells}

-- ---- any line

module _ {A : Type 0} (m : Form Name A) (head : Bool) (n p : ℕ) (ps : List Piece) (fields : cells 0 ps ≡ take n (cells_of head)) where
  pub line_denied : (ts : List (List ℕ)) → line_formed head n ts ≡ false → compose_line m (letter_of head) ps p ts ≡ denied (refusing 17 p)
  line_denied [] e = refl
  line_denied (t ∷ ts) e = rw (fields, e)

  pub line_heard : (ts : List (List ℕ)) → line_formed head n ts ≡ true
      → compose_line m (letter_of head) ps p ts ≡ heard ps (behind_letter ts) p (read_at m (lay ps (behind_letter ts)) 0)
  line_heard [] e = absurd (T_of e)
  line_heard (t ∷ ts) e = rw (fields, e)

  -- a refused field, where it stands in the line
  module _ {T S : Type 0} (u : Telling A S) {a : Reading S} {r z : Refusal} (keep : A → T) (ts : List (List ℕ)) (e : line_formed head n ts ≡ true)
      (told : a ≡ of_read u (read_at m (lay ps (behind_letter ts)) 0)) where
    pub line_refuses : a ≡ Err r → z ≡ refusal_of r.number (p + place_in head n ts r.place) → Err z ≡ tells keep (compose_line m (letter_of head) ps p ts)
    line_refuses given i =
        let h = halts u (read_at m (lay ps (behind_letter ts)) 0) told given in
        rw (i, h.2) (sym (ap (tells keep) (line_heard ts e ∙ ap (heard ps (behind_letter ts) p) h.1) ∙ rw fields))

-- the place of a refused field lies in the line, or just behind it
pub place_inside : (head : Bool) (n : ℕ) (x : List ℕ) (p : ℕ) → FormedLine head n x → place_in head n (split tab x) p ≤ length x + 1
place_inside head n x p f = by (split tab x) refl f.1.1
  where
    by : (ts : List (List ℕ)) → split tab x ≡ ts → line_formed head n ts ≡ true → place_in head n ts p ≤ length x + 1
    by [] e g = absurd (T_of g)
    by (t ∷ ts) e g =
        let i = in_line_lem (take n (cells_of head)) ts line.first p in
        let l : length t + length (behind_tabs ts) ≡ length x = sym (length-append t (behind_tabs ts)) ∙ ap length (line_from x t ts e) in
        let o : 1 ≡ length t = sym (letter_long head) ∙ ap length (same_eq (letter_of head) t (and_both (same (letter_of head) t) _ (T_of g)).0) in
        omega arith

-- ---- A

module _ (ts : List (List ℕ)) where
  pub header_denied : {z : Refusal} → z ≡ refusal_of 17 0 → line_formed true fields_of_header_line ts ≡ false → Err z ≡ head_told (compose_header ts)
  unfolding compose_header
  header_denied w e = ap (λ x. Err x) w ∙ sym (ap head_told (line_denied header true fields_of_header_line 0 record_a refl ts e))

  module _ (e : line_formed true fields_of_header_line ts ≡ true) {a : Reading (Header × ℕ)} (told : a ≡ of_read headers (read_at header (lay record_a (behind_letter ts)) 0)) where
    pub header_refuses : {r z : Refusal} → a ≡ Err r → z ≡ refusal_of r.number (0 + place_in true fields_of_header_line ts r.place) → Err z ≡ head_told (compose_header ts)
    unfolding compose_header
    header_refuses given i = line_refuses header true fields_of_header_line 0 record_a refl headers (λ h. kind_of h.file_kind) ts e told given i

    pub header_accepts : {h : Header} {at : ℕ} → a ≡ Ok (h, at) → Ok h.kind ≡ head_told (compose_header ts)
    unfolding compose_header
    header_accepts given =
        let x = reads headers (read_at header (lay record_a (behind_letter ts)) 0) told given in
        ap (λ (y : Header × ℕ). Ok y.0.kind) x.given
        ∙ sym (ap head_told (line_heard header true fields_of_header_line 0 record_a refl ts e ∙ ap (heard record_a (behind_letter ts) 0) x.done))

-- ---- a payment

pub few : (n : ℕ) → parts_of n ≤ most_parts
few n = omega arith

-- no record of a payment is longer than one with the most parts
pub longest : (k : ℕ) → 128 * section (min k most_parts) ≤ 128 * section most_parts
longest k = by (leb (min k most_parts) 2)
  where
    by : (b : Bool) → 128 * cond b 2 (3 + (min k most_parts - 3) / 4) ≤ 128 * section most_parts
    by true = omega arith
    by false = omega arith

pub min_is : (k : ℕ) → k ≤ most_parts → min k most_parts ≡ k
min_is k h = omega arith

-- k is the number of parts that the line tells
module _ (letters : List ℕ) (t : Totals) (sums : Sums) (p : ℕ) (ts : List (List ℕ)) {k : ℕ} (parts : k ≡ parts_of (length ts)) where
  pub few_told : k ≤ most_parts
  few_told = omega (arith, few (length ts))

  as_told : compose_payment letters t p ts ≡ compose_line (whole_payment letters t) (ascii "C") (record_c k) p ts
  unfolding compose_payment
  as_told = ap (λ j. compose_line (whole_payment letters t) (ascii "C") (record_c j) p ts) (sym parts)

  pub payment_denied : {z : Refusal} → z ≡ refusal_of 17 p → line_formed false (fields_with k) ts ≡ false → Err z ≡ payment_told sums (compose_payment letters t p ts)
  payment_denied w e =
      ap (λ x. Err x) w ∙ sym (ap (payment_told sums) (as_told ∙ line_denied (whole_payment letters t) false (fields_with k) p (record_c k) (fields_first k few_told) ts e))

  module _ (e : line_formed false (fields_with k) ts ≡ true) {a : Reading (Sums × ℕ)}
      (told : a ≡ of_read (payments_on sums) (read_at (whole_payment letters t) (lay (record_c k) (behind_letter ts)) 0)) where
    pub payment_refuses : {r z : Refusal} → a ≡ Err r → z ≡ refusal_of r.number (p + place_in false (fields_with k) ts r.place)
        → Err z ≡ payment_told sums (compose_payment letters t p ts)
    payment_refuses given i =
        line_refuses (whole_payment letters t) false (fields_with k) p (record_c k) (fields_first k few_told) (payments_on sums)
        (λ q. (with_payment sums q, length (write_payment q))) ts e told given i
        ∙ ap (payment_told sums) (sym as_told)

    pub payment_accepts : {new : Sums} {at bytes : ℕ} → a ≡ Ok (new, at) → bytes ≡ 128 * section (min k most_parts)
        → Ok (new, bytes) ≡ payment_told sums (compose_payment letters t p ts)
    payment_accepts {new} {at} {bytes} given size =
        let x = reads (payments_on sums) (read_at (whole_payment letters t) (lay (record_c k) (behind_letter ts)) 0) told given in
        let c : compose_payment letters t p ts ≡ made x.value
        = as_told ∙ line_heard (whole_payment letters t) false (fields_with k) p (record_c k) (fields_first k few_told) ts e ∙ ap (heard (record_c k) (behind_letter ts) p) x.done in
        let h = payment_heard letters t p ts x.value c in
        let l : bytes ≡ length (write_payment x.value)
        = size ∙ ap (λ n. 128 * section n) (min_is k few_told ∙ parts ∙ h.parts) ∙ sym (payment_length letters x.value h.good.legal) in
        ap₂ (λ (s : Sums) (n : ℕ). Ok (s, n)) (ap (λ (y : Sums × ℕ). y.0) x.given) l ∙ ap (payment_told sums) (sym c)
