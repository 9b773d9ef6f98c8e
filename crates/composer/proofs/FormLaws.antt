-- The fields of a line one by one: whether the line has its form, and where the field of a place of its record stands.
-- Two loops go along the fields of a line, field i at q (`Stand`), and each keeps that the definition's answer for the whole line is its answer
-- for the fields from i on (`Forming`, `Seeking`). One turn takes one cell and one field off that rest (`stand_here`), so the answer is that of
-- field i or of what is behind it; behind the last field nothing is left (`no_more`). That the code's test of a width is the form's is by the
-- cases of a field's kind (`wide_as_lem`).
use Prim.Native.Nat.{ℕ, zero, suc, ◌+◌, ◌-◌, ◌≤◌, ◌<◌}
use native.Mathlib.Numerals.{add-one}
use native.Mathlib.Omega.{arith}
use mathlib.Core.Path.{◌≡◌, refl, sym, ap, subst, ◌∙◌}
use mathlib.Core.Bool.{Bool, true, false, ◌&&◌, ◌||◌, not, cond, or-false, or_comm}
use mathlib.Core.List.{List, [], ◌∷◌}
use mathlib.Core.Option.{some}
use lib.ListN.{length, take, drop, get_elem?, length-drop, drop_of_length-le}
use lib.Seq.{length-take-le}
use lib.Dec.{T, leb, eqb, lit≤}
use borrow.Author.Tests.{eqb-true, eq-eqb, ne_eqb, le-leb}
use Rattle.form.specs.Kind.{Kind, fixed, digits, maybe, text, choice, same}
use Rattle.form.proofs.BoolLaws.{is_true}
use Rattle.form.proofs.KindLaws.{same_self}
use Rattle.document.specs.Marks.{most_parts}
use Rattle.listing.specs.Lines.{tab, split, ends_in_blank}
use Rattle.listing.specs.Records.{fields_with, Cell, in_line, wide, field_formed, formed}
use Rattle.listing.proofs.LineLaws.{Some, some, split_some}
use Rattle.layout.specs.declared.Cell.{Cell as CodeCell}
use Rattle.layout.specs.Lines as line
use Rattle.layout.specs.Cells.{letter_of, cell_of, cells_of, cell_at}
use Rattle.line_reader.specs.Reaching.{reach}
use Rattle.composer.specs.Telling.{wide_as, formed_as, line_formed, behind_letter, FormedLine, place_in}
use Rattle.composer.proofs.ByteLaws.{refuted}
use Rattle.composer.proofs.WalkLaws.{begins, letter_parted, formed_count, formed_begins, At, at_begun, at_first, at_field, at_next}

-- ---- the form of a field, by its cell

same_or_less : (n w : ℕ) (b : Bool) → eqb n w ≡ b → (b || (leb n w || false)) ≡ leb n w
same_or_less n w true e = sym (le-leb n w (omega (arith, eqb-true n w e)))
same_or_less n w false e = or-false (leb n w)

pub wide_as_lem : (p : ℕ) (κ : Kind) (n : ℕ) → wide_as (cell_of (some (record { place = p; kind = κ }))) n ≡ wide κ n
wide_as_lem p (fixed bs) n = or-false (eqb n (length bs))
wide_as_lem p (digits w) n = or-false (eqb n w)
wide_as_lem p (maybe w) n = or_comm (eqb n w) (eqb n 0)
wide_as_lem p (text sign w) n = same_or_less n w (eqb n w) refl
wide_as_lem p (choice w words) n = or-false (eqb n w)

formed_as_lem : (c : Cell) (t : List ℕ) → field_formed c.kind t ≡ formed_as (cell_of (some c)) t
formed_as_lem c t = ap (λ (b : Bool). b && not (ends_in_blank t)) (sym (wide_as_lem c.place c.kind (length t)))

-- ---- element i of a list

first_of_lem : {A : Type 0} (l : List A) (n i : ℕ) → i < n → n ≤ length l
    → (a : A) × (get_elem? l i ≡ some a) × (drop i (take n l) ≡ a ∷ drop (suc i) (take n l))
first_of_lem l zero i h k = absurd (omega arith)
first_of_lem [] (suc n) i h k = absurd (omega arith)
first_of_lem (a ∷ l) (suc n) zero h k = (a, refl, refl)
first_of_lem (a ∷ l) (suc n) (suc i) h k = first_of_lem l n i (omega arith) (omega arith)

from_there : {A : Type 0} (l : List A) (i : ℕ) (a : A) → get_elem? l i ≡ some a → drop i l ≡ a ∷ drop (suc i) l
from_there [] i a e = absurd (let z : ◌≡◌ {A = ℕ} 0 1 = cc in omega arith)
from_there (b ∷ l) zero a e = let k : b ≡ a = cc in ap (λ c. c ∷ l) k
from_there (b ∷ l) (suc i) a e = from_there l i a e

-- ---- a line of n fields behind its letter

abbrev pub fields_of : List ℕ → List (List ℕ)
fields_of x = behind_letter (split tab x)

pub all_fields : (x : List ℕ) → length (split tab x) ≡ suc (length (fields_of x))
all_fields x = by (split tab x) (split_some tab x)
  where
    by : (ts : List (List ℕ)) → Some ts → length ts ≡ suc (length (behind_letter ts))
    by ts (some u us) = refl

-- field i of a line of n fields, if there is one, stands at q
pub record Stand (head : Bool) (n : ℕ) (x : List ℕ) (i q : ℕ) : Type 0 where
  pub few : n ≤ length (cells_of head)
  pub all : length (fields_of x) ≡ n
  pub at : i < n → At x (fields_of x) i q

module _ {head : Bool} {n : ℕ} {x : List ℕ} {i q : ℕ} (w : Stand head n x i q) where
  -- behind the last field neither a cell nor a field is left
  no_more : n ≤ i → (drop i (take n (cells_of head)) ≡ []) × (drop i (fields_of x) ≡ [])
  no_more h =
      let all = w.all in (
        drop_of_length-le (take n (cells_of head)) {i = i} (omega (arith, length-take-le n (cells_of head) w.few)),
        drop_of_length-le (fields_of x) {i = i} (omega arith),
      )

module _ {head : Bool} {n : ℕ} {x : List ℕ} {i q : ℕ} (w : Stand head n x i q) (before : i < n) where
  -- field i ends at e
  pub stand_ends : (e : ℕ) → e ≡ q + reach tab (drop q x) → (q ≤ e) × (e ≤ length x)
  stand_ends e r = let f = at_field e (w.at before) r in (f.0, f.1)

  stand_more : (e : ℕ) → e ≡ q + reach tab (drop q x) → Stand head n x (i + 1) (e + 1)
  stand_more e r =
      let all = w.all in
      record { few = w.few; all = w.all; at = λ more. (at_next e (w.at before) r (omega arith)).1 }

  -- the cell of field i is c
  stand_here : (e : ℕ) → e ≡ q + reach tab (drop q x) → (c : CodeCell) → c ≡ cell_at head i
      → (a : Cell) × (cell_of (some a) ≡ c) × (drop i (take n (cells_of head)) ≡ a ∷ drop (i + 1) (take n (cells_of head)))
      × (drop i (fields_of x) ≡ take (e - q) (drop q x) ∷ drop (i + 1) (fields_of x))
  stand_here e r c is =
      let a = first_of_lem (cells_of head) n i before w.few in
      let f = from_there (fields_of x) i (take (e - q) (drop q x)) (at_field e (w.at before) r).2 in
      rw (add-one i) (a.0, ap cell_of (sym a.1) ∙ sym is, a.2, f)

-- no line has more fields than that of a payment with the most parts
pub cells_few : (head : Bool) → length (cells_of head) ≤ fields_with most_parts
cells_few true = lit≤ tt
cells_few false = lit≤ tt

-- ---- the form of the line

-- the fields from field i on have their form
abbrev formed_from : Bool → ℕ → List ℕ → ℕ → Bool
formed_from head n x i = formed (drop i (take n (cells_of head))) (drop i (fields_of x))

-- the fields before field i have their form
pub record Forming (head : Bool) (n : ℕ) (x : List ℕ) (i q : ℕ) : Type 0 where
  pub stand : Stand head n x i q
  pub rest : line_formed head n (split tab x) ≡ formed_from head n x i

module _ (head : Bool) (n : ℕ) (x : List ℕ) (pre : (0 < n) × (n ≤ length (cells_of head))) where
  pub other_count : (length (split tab x) ≡ n + 1 → ⊥) → false ≡ line_formed head n (split tab x)
  other_count h =
      refuted (line_formed head n (split tab x)) (λ f. h (omega (arith, all_fields x, formed_count head n x (pre.0, (pre.1, f)))))

  pub other_letter : begins head x ≡ false → false ≡ line_formed head n (split tab x)
  other_letter h = refuted (line_formed head n (split tab x)) (λ f. subst T (sym (formed_begins head n x (pre.0, (pre.1, f))) ∙ h) tt)

  pub form_first : length (split tab x) ≡ n + 1 → begins head x ≡ true → Forming head n x 0 line.first
  form_first l b =
      record {
        stand = record { few = pre.1; all = omega (arith, all_fields x); at = λ some. at_begun head x b };
        rest = rw (letter_parted head x b, is_true (same (letter_of head) (letter_of head)) (same_self (letter_of head)));
      }

-- field i has the form that the cell c asks for, or not
module _ {head : Bool} {n : ℕ} {x : List ℕ} {i q : ℕ} (w : Forming head n x i q) (before : i < n) (e : ℕ) (r : e ≡ q + reach tab (drop q x))
    (c : CodeCell) (is : c ≡ cell_at head i) where
  form_here : (b : Bool) → b ≡ formed_as c (take (e - q) (drop q x)) → line_formed head n (split tab x) ≡ b && formed_from head n x (i + 1)
  form_here b h =
      let a = stand_here w.stand before e r c is in
      let t = take (e - q) (drop q x) in
      let k : field_formed (a.0).kind t ≡ b = formed_as_lem a.0 t ∙ ap (λ (d : CodeCell). formed_as d t) a.1 ∙ sym h in
      w.rest ∙ rw (a.2, a.3, k)

  pub form_not : false ≡ formed_as c (take (e - q) (drop q x)) → false ≡ line_formed head n (split tab x)
  form_not h = sym (form_here false h)

  pub form_more : true ≡ formed_as c (take (e - q) (drop q x)) → Forming head n x (i + 1) (e + 1)
  form_more h = record { stand = stand_more w.stand before e r; rest = form_here true h }

-- all fields have their form
pub form_all : {head : Bool} {n : ℕ} {x : List ℕ} {i q : ℕ} → Forming head n x i q → n ≤ i → true ≡ line_formed head n (split tab x)
form_all w h = let none = no_more w.stand h in sym (w.rest ∙ rw (none.0, none.1))

-- ---- where a field of the record stands

-- where the field of place p stands, if it is field i or a later one
abbrev place_from : Bool → ℕ → List ℕ → ℕ → ℕ → ℕ → ℕ
place_from head n x p i q = in_line (drop i (take n (cells_of head))) (drop i (fields_of x)) q p

-- the field of place p is none of those before field i
pub record Seeking (head : Bool) (n : ℕ) (x : List ℕ) (p i q : ℕ) : Type 0 where
  pub stand : Stand head n x i q
  pub rest : place_in head n (split tab x) p ≡ place_from head n x p i q

pub place_first : (head : Bool) (n : ℕ) (x : List ℕ) (p : ℕ) → FormedLine head n x → Seeking head n x p 0 line.first
place_first head n x p f =
    record { stand = record { few = f.1.0; all = formed_count head n x f; at = λ some. at_first head n x f }; rest = refl }

-- field i is the one at c's place, or not
module _ {head : Bool} {n : ℕ} {x : List ℕ} {p i q : ℕ} (w : Seeking head n x p i q) (before : i < n) (c : CodeCell) (is : c ≡ cell_at head i) where
  seek : (e : ℕ) → e ≡ q + reach tab (drop q x) → (b : Bool) → eqb p c.place ≡ b
      → place_in head n (split tab x) p ≡ cond b q (place_from head n x p (i + 1) (e + 1))
  seek e r b h =
      let a = stand_here w.stand before e r c is in
      let t = take (e - q) (drop q x) in
      let f = stand_ends w.stand before e r in
      let l : length t ≡ e - q = length-take-le (e - q) (drop q x) (omega (arith, length-drop q x)) in
      let k : q + suc (length t) ≡ e + 1 = omega arith in
      let g : eqb p (a.0).place ≡ b = ap (λ (d : CodeCell). eqb p d.place) a.1 ∙ h in
      w.rest ∙ rw (a.2, a.3, g, k)

  pub place_here : p ≡ c.place → q ≡ place_in head n (split tab x) p
  place_here h = sym (seek (q + reach tab (drop q x)) refl true (eq-eqb p c.place h))

  pub place_more : (p ≡ c.place → ⊥) → (e : ℕ) → e ≡ q + reach tab (drop q x) → Seeking head n x p (i + 1) (e + 1)
  place_more h e r = record { stand = stand_more w.stand before e r; rest = seek e r false (ne_eqb p c.place h) }

-- no field is the one of place p
pub place_none : {head : Bool} {n : ℕ} {x : List ℕ} {p i q : ℕ} → Seeking head n x p i q → n ≤ i → 0 ≡ place_in head n (split tab x) p
place_none w h = sym (w.rest ∙ rw (no_more w.stand h).0)
