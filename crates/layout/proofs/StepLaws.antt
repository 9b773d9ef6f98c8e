-- From one payment of a file to the next, for every loop over them: what it keeps, and how the number of parts that C18 tells takes it on.
-- The payments of an accepted file stand one after another behind A. A loop that goes on by the bytes which C18 tells comes to each of them in
-- turn, and what it keeps of the rows passed and the payments still to come it keeps on (`pass_on`, `pass_to`).
use Prim.Native.Nat.{ℕ, ◌+◌, ◌-◌, ◌*◌, ◌≤◌, ◌<◌, min}
use native.Mathlib.Nat.{add-zero}
use native.Mathlib.Omega.{arith}
use mathlib.Core.Path.{◌≡◌, refl, sym, ap, subst, ◌∙◌}
use mathlib.Core.List.{List, [], ◌∷◌, ◌++◌, map, append-nil}
use lib.ListN.{length, drop, get_or, length-append, length-drop}
use lib.Seq.{get_or-drop}
use Rattle.form.specs.Kind.{numeral}
use Rattle.form.specs.Reader.{Answer, accepted, refused}
use Rattle.form.proofs.KindLaws.{numeral_length}
use Rattle.document.specs.Values.{Payment, Document, Totals, totals}
use Rattle.document.specs.Rules.{All, LegalPayment, Legal}
use Rattle.document.specs.Marks.{most_parts}
use Rattle.diskette.specs.Writing.{in_turn, section, length_of, write_header, write_body, write_payment, write_payments, fields_of_e, write_end, write, Acceptable}
use Rattle.diskette.specs.Fields.{Name}
use Rattle.diskette.specs.Answer.{answer, payments_of}
use Rattle.diskette.proofs.LayoutLaws.{header_length}
use Rattle.diskette.proofs.Promises.{accepted_exactly, accepted_reading}
use Rattle.layout.specs.Places as place
use Rattle.layout.specs.Widths as width
use Rattle.layout.specs.Steps.{first_payment, parts_at}
use Rattle.layout.proofs.StandLaws.{Stand, from_first, first_inside, behind_first, opened}
use Rattle.layout.proofs.PaymentLaws.{Begun, fields_of, bytes_there}

-- payments that stand at p one after another, each of them legal
pub record Coming (f : List ℕ) (p : ℕ) (ps : List Payment) : Type 0 where
  pub kind : List ℕ
  pub legal : All (LegalPayment kind) ps
  pub stand : Stand f p (map write_payment ps)

-- ---- behind A

-- all fields of E, its length among them
abbrev pub fields_of_end : Totals → List (List ℕ)
fields_of_end t = numeral width.E1 128 ∷ fields_of_e t

written_in_turn : (ps : List Payment) → write_payments ps ≡ in_turn (map write_payment ps)
written_in_turn [] = refl
written_in_turn (x ∷ xs) = ap (λ bs. write_payment x ++ bs) (written_in_turn xs)

-- a file that stands at p: its payments one after another behind A, and E behind them
pub record FileStands (f : List ℕ) (p : ℕ) (d : Document) : Type 0 where
  pub payments : Coming f (p + first_payment) d.payments
  pub end : Stand f (p + first_payment + length (write_payments d.payments)) (fields_of_end (totals d.payments))

pub file_stands : (f : List ℕ) (p : ℕ) (d : Document) → Legal d → (rest : List ℕ) → drop p f ≡ write d ++ rest → FileStands f p d
file_stands f p d legal rest bytes =
    let ps = d.payments in
    let whole : Stand f p (write_header d.header ∷ write_payments ps ∷ write_end (totals ps) ∷ []) = record { rest = rest; bytes = bytes } in
    let behind-a = behind_first whole (header_length d.header legal.header) in
    record {
      payments = record {
        kind = d.header.file_kind;
        legal = legal.payments;
        stand = opened (map write_payment ps) (subst (λ bs. Stand f (p + first_payment) (bs ∷ write_end (totals ps) ∷ [])) (written_in_turn ps) behind-a);
      };
      end = opened (fields_of_end (totals ps)) (behind_first behind-a refl);
    }

-- in an acceptable file the payments come behind A
behind_header_lem : (f : List ℕ) (x : Acceptable f) → Coming f first_payment x.0.payments
behind_header_lem f x = (file_stands f 0 x.0 x.1 [] (sym x.2 ∙ sym (append-nil (write x.0)))).payments

pub payments_coming : (f : List ℕ) → Coming f first_payment (payments_of (answer f))
unfolding payments_of
payments_coming f = by (answer f) refl
  where
    by : (a : Answer Name Document) → answer f ≡ a → Coming f first_payment (payments_of (answer f))
    by (accepted d) e =
        let x = (accepted_exactly f).0 (d, e) in
        rw (accepted_reading f x) (behind_header_lem f x)
    by (refused r) e = rw e (record { kind = []; legal = tt; stand = record { rest = drop first_payment f; bytes = refl } })

-- ---- the first of them

-- no payment is empty
pub some_bytes : (x : Payment) → 0 < length (write_payment x)
some_bytes x =
    let c1 = numeral 4 (length_of (length x.parts)) in
    omega (arith, length-append c1 (write_body x), numeral_length 4 (length_of (length x.parts)))

module _ {f : List ℕ} {p : ℕ} {x : Payment} {xs : List Payment} (c : Coming f p (x ∷ xs)) where
  pub first_begun : Begun f p x
  first_begun = record { kind = c.kind; legal = c.legal.0; stand = opened (fields_of x) c.stand }

  pub others_coming : Coming f (p + length (write_payment x)) xs
  others_coming = record { kind = c.kind; legal = c.legal.1; stand = behind_first c.stand refl }

  pub first_ends : p + length (write_payment x) ≤ length f
  first_ends = first_inside c.stand refl (some_bytes x)

-- ---- the letter of a record

-- the first byte of what stands at p
first_byte : {f : List ℕ} {p b : ℕ} {bs : List ℕ} {others : List (List ℕ)} → Stand f p ((b ∷ bs) ∷ others) → (p < length f) × (get_or f p 0 ≡ b)
first_byte {f} {p} {b} {bs} {others} s =
    let e = from_first s refl in
    let l : length f - p ≡ length ((b ∷ bs) ++ (in_turn others ++ s.rest)) = sym (length-drop p f) ∙ ap length e in
    (omega arith, sym (ap (λ i. get_or f i 0) (add-zero p)) ∙ sym (get_or-drop p f 0 0) ∙ ap (λ l. get_or l 0 0) e)

-- the byte behind its length: C in a payment, E in E
pub letter_of_payment : {f : List ℕ} {p : ℕ} {x : Payment} → Begun f p x → (p + place.C2 < length f) × (get_or f (p + place.C2) 0 ≡ 0x43)
letter_of_payment b = first_byte (behind_first b.stand (numeral_length 4 _))

pub letter_of_end : {f : List ℕ} {p : ℕ} (t : Totals) → Stand f p (fields_of_end t) → (p + place.E2 < length f) × (get_or f (p + place.E2) 0 ≡ 0x45)
letter_of_end t s = first_byte (behind_first s (numeral_length 4 _))

-- ---- a loop over the payments

-- what is kept of the rows passed, the place and the payments still to come
abbrev pub Keeping : Type 1
Keeping = ℕ → ℕ → List Payment → Type 0

-- `row` payments are passed, the next stands at p
pub record Passing (f : List ℕ) (K : Keeping) (row p : ℕ) : Type 0 where
  pub left : List Payment
  pub count : row + length left ≡ length (payments_of (answer f))
  pub coming : Coming f p left
  pub kept : K row p left

pub pass_start : (f : List ℕ) (K : Keeping) → K 0 first_payment (payments_of (answer f)) → Passing f K 0 first_payment
pass_start f K k = record { left = payments_of (answer f); count = omega arith; coming = payments_coming f; kept = k }

-- what is kept of one payment gives what is kept of the next, as where a row is written between them
abbrev pub OnwardTo : List ℕ → ℕ → ℕ → Keeping → Keeping → Type 0
OnwardTo f row p K K' = (x : Payment) (xs : List Payment) → Begun f p x → K row p (x ∷ xs) → K' (row + 1) (p + length (write_payment x)) xs

-- what a loop keeps is the same for each payment
abbrev pub Onward : List ℕ → ℕ → ℕ → Keeping → Type 0
Onward f row p K = OnwardTo f row p K K

-- the next payment, and those behind it
pub record Next (f : List ℕ) (K : Keeping) (row p : ℕ) (left : List Payment) : Type 0 where
  pub payment : Payment
  pub others : List Payment
  pub is : left ≡ payment ∷ others
  pub begun : Begun f p payment
  pub inside : p + length (write_payment payment) ≤ length f
  pub behind : Coming f (p + length (write_payment payment)) others
  pub kept : K row p (payment ∷ others)

pub next_of : {f : List ℕ} {K : Keeping} {row p : ℕ} (left : List Payment) → Coming f p left → K row p left → 0 < length left → Next f K row p left
next_of [] c k h = absurd (omega arith)
next_of (x ∷ xs) c k h =
    record { payment = x; others = xs; is = refl; begun = first_begun c; inside = first_ends c; behind = others_coming c; kept = k }

module _ {f : List ℕ} {K : Keeping} {row p : ℕ} (w : Passing f K row p) where
  -- before all payments are passed, another stands at p
  pub next : row < length (payments_of (answer f)) → Next f K row p w.left
  next h = next_of w.left w.coming w.kept (let c = w.count in omega arith)

  -- when all payments are passed, none is left
  pub none_left : length (payments_of (answer f)) ≤ row → w.left ≡ []
  none_left h = by w.left w.count
    where
      by : (left : List Payment) → row + length left ≡ length (payments_of (answer f)) → left ≡ []
      by [] e = refl
      by (x ∷ xs) e = absurd (omega arith)

  module _ (h : row < length (payments_of (answer f))) {k n : ℕ} (told : k ≡ parts_at f p) (step : n ≡ 128 * section (min k most_parts)) where
    pub step_is : n ≡ length (write_payment (next h).payment)
    step_is = bytes_there (next h).begun told step

    pub pass_inside : p + n ≤ length f
    pass_inside = omega (arith, step_is, (next h).inside)

    pub pass_to : {K' : Keeping} → OnwardTo f row p K K' → Passing f K' (row + 1) (p + n)
    pass_to {K'} on =
        let x = next h in
        let m = ap length x.is in
        let c = w.count in
        subst (λ m. Passing f K' (row + 1) (p + m)) (sym step_is)
        (record { left = x.others; count = omega arith; coming = x.behind; kept = on x.payment x.others x.begun x.kept })

    pub pass_on : Onward f row p K → Passing f K (row + 1) (p + n)
    pass_on on = pass_to on
