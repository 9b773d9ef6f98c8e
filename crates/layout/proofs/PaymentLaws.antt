-- A payment that stands in a file: its length, the numbers of its row and the number of its parts at their places, and the bytes that it takes.
use Prim.Native.Nat.{ℕ, ◌+◌, ◌*◌, ◌≤◌, min}
use native.Mathlib.Omega.{arith}
use mathlib.Core.Path.{◌≡◌, refl, sym, ap, ◌∙◌}
use mathlib.Core.List.{List, ◌∷◌}
use lib.ListN.{length, take, drop}
use lib.Dec.{leb, le→leb}
use Rattle.form.specs.Kind.{digits, every, digit, numeral}
use Rattle.form.specs.Reader.{has, judge}
use Rattle.form.specs.Place.{look_at}
use Rattle.form.proofs.BoolLaws.{is_true}
use Rattle.form.proofs.KindLaws.{numeral_length}
use Rattle.document.specs.Values.{Payment}
use Rattle.document.specs.Rules.{LegalPayment}
use Rattle.document.specs.Marks.{most_parts}
use Rattle.diskette.specs.Writing.{section, length_of, fields_of_c, write_payment}
use Rattle.diskette.proofs.PaymentSays.{few_parts}
use Rattle.diskette.proofs.LayoutLaws.{payment_length}
use Rattle.layout.specs.Places as place
use Rattle.layout.specs.Widths as width
use Rattle.layout.specs.Steps.{or_nothing, parts_at}
use Rattle.layout.proofs.StandLaws.{Stand, behind_first, Spells, numeral_spells, spells_at}

-- all fields of a payment, its length among them
abbrev pub fields_of : Payment → List (List ℕ)
fields_of x = numeral width.C1 (length_of (length x.parts)) ∷ fields_of_c x

-- the payment x is legal and begins at p
pub record Begun (f : List ℕ) (p : ℕ) (x : Payment) : Type 0 where
  pub kind : List ℕ
  pub legal : LegalPayment kind x
  pub stand : Stand f p (fields_of x)

-- C1, C4, C5, C12 and C18 of the payment x, which begins at p
pub record Row (f : List ℕ) (p : ℕ) (x : Payment) : Type 0 where
  pub length_field : Spells f (p + place.C1) width.C1 (length_of (length x.parts))
  pub bank_code : Spells f (p + place.C4) width.C4 x.bank_code
  pub account : Spells f (p + place.C5) width.C5 x.account
  pub cents : Spells f (p + place.C12) width.C12 x.cents
  pub part_count : Spells f (p + place.C18) width.C18 (length x.parts)

-- digits that spell a number are read as it
pub look_spelled : {f : List ℕ} {p w v : ℕ} → Spells f p w v → look_at (digits w) f p ≡ has v
unfolding look_at judge
look_spelled {f} {p} {w} s = rw (is_true (leb (p + w) (length f)) (le→leb (p + w) (length f) s.inside), is_true (every digit (take w (drop p f))) s.digits, s.value)

module _ {f : List ℕ} {p : ℕ} {x : Payment} (b : Begun f p x) where
  pub few : length x.parts ≤ most_parts
  few = few_parts b.kind x b.legal

  pub row : Row f p x
  row =
      let l = b.legal in
      let h = few in
      let c2 = behind_first b.stand (numeral_length 4 _) in
      let c3 = behind_first c2 refl in
      let c4 = behind_first c3 (numeral_length 8 _) in
      let c5 = behind_first c4 (numeral_length 8 _) in
      let c6 = behind_first c5 (numeral_length 10 _) in
      let c7a = behind_first c6 (numeral_length 13 _) in
      let c7b = behind_first c7a (numeral_length 2 _) in
      let c8 = behind_first c7b (numeral_length 3 _) in
      let c9 = behind_first c8 refl in
      let c10 = behind_first c9 refl in
      let c11 = behind_first c10 (numeral_length 8 _) in
      let c12 = behind_first c11 (numeral_length 10 _) in
      let c13 = behind_first c12 (numeral_length 11 _) in
      let c14a = behind_first c13 refl in
      let c14b = behind_first c14a l.C14a.long in
      let c15 = behind_first c14b refl in
      let c16 = behind_first c15 l.C15.long in
      let c17a = behind_first c16 l.C16.long in
      let c17b = behind_first c17a refl in
      let c18 = behind_first c17b refl in
      record {
        length_field = spells_at (numeral_spells b.stand (omega arith) (omega arith)) (omega arith);
        bank_code = spells_at (numeral_spells c4 (omega arith) l.C4) (omega arith);
        account = spells_at (numeral_spells c5 (omega arith) l.C5) (omega arith);
        cents = spells_at (numeral_spells c12 (omega arith) l.C12) (omega arith);
        part_count = spells_at (numeral_spells c18 (omega arith) (omega arith)) (omega arith);
      }

  -- what is read at C18 is the number of the payment's parts
  pub parts_there : parts_at f p ≡ length x.parts
  unfolding or_nothing
  parts_there = ap or_nothing (look_spelled row.part_count)

  -- the bytes that the code goes on by are those that the payment takes
  pub bytes_there : {k n : ℕ} → k ≡ parts_at f p → n ≡ 128 * section (min k most_parts) → n ≡ length (write_payment x)
  bytes_there {k} e i =
      let h = few in
      let m : min k most_parts ≡ length x.parts = omega (arith, e, parts_there) in
      i ∙ ap (λ j. 128 * section j) m ∙ sym (payment_length b.kind x b.legal)
