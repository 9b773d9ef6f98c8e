-- One turn of the loop that puts a line's fields into a record: the next field of the line, put where it stands in the record.
-- The loop keeps `Layable`: the line has its form, field i stands at q, and the record has what is its own and the fields before i. Field i is
-- no wider than its cell, because the line has its form, so there is room for it and it makes the record with one field more (`one_more`, by
-- `lay_over`); the walk goes on behind its tab (`put_more`). The numbers of a payment stand at fixed places of the line and are put without that
-- walk (`put_number`). Copying one field byte by byte keeps `Copying`: the bytes of it before i are in the record, and no tab was among them.
use Prim.Native.Nat.{ℕ, suc, ◌+◌, ◌-◌, ◌≤◌, ◌<◌}
use native.Mathlib.Numerals.{add-one}
use native.Mathlib.Omega.{arith}
use mathlib.Core.Path.{◌≡◌, refl, sym, ap, ◌∙◌}
use mathlib.Core.Bool.{Bool, false}
use mathlib.Core.List.{List, []}
use mathlib.Core.Option.{some}
use lib.ListN.{length, take, drop, get_or, set, get_elem?, length-drop}
use lib.Seq.{take_all, length-take-le, get_or-take, get_or-drop}
use Rattle.form.specs.Kind.{width}
use Rattle.document.specs.Marks.{most_parts}
use Rattle.listing.specs.Lines.{tab}
use Rattle.listing.specs.Records.{record_c, numbers_of_payment_line, fields_with, pad, lay, Cell, cells}
use Rattle.listing.proofs.RecordLaws.{lay_length}
use Rattle.layout.specs.declared.Cell.{Cell as CodeCell}
use Rattle.output.proofs.WritingLaws.{Writing, writing_start, writing_more, writing_end}
use Rattle.output.specs.Writing.{over, over_if_room}
use Rattle.layout.specs.Lines as line
use Rattle.layout.specs.Cells.{record_of, cell_of, cells_of, cell_at}
use Rattle.line_reader.specs.Reaching.{reach}
use Rattle.line_reader.proofs.ReachLaws.{reach_le, reach_on}
use Rattle.layout.proofs.CellLaws.{field_of_c, fields_of_c_lem, fields_first}
use Rattle.composer.specs.Telling.{FormedLine}
use Rattle.composer.specs.Writing.{Layable}
use Rattle.composer.proofs.LayLaws.{fills_itself, lay_room, lay_over, lay_step}
use Rattle.composer.proofs.WalkLaws.{formed_count, At, at_first, at_field, at_next}
use Rattle.composer.proofs.FormLaws.{fields_of}
use Rattle.composer.proofs.WideLaws.{among_first, narrow, field_wide, line_at, number_at, number_end, texts_inside}

-- ---- the first field

pub put_first : {head : Bool} {k n : ℕ} {x out : List ℕ} → FormedLine head n x → cells 0 (record_of head k) ≡ take n (cells_of head)
    → out ≡ lay (record_of head k) [] → Layable head k n x out 0 line.first
put_first {head} {n = n} {x = x} f is own =
    let w = at_first head n x f in
    record { line = f; cells = is; left = f.0; inside = w.inside; here = w.here; laid = own }

pub payment_first : {k : ℕ} {x out : List ℕ} → k ≤ most_parts → FormedLine false (fields_with k) x → out ≡ lay (record_c k) [] → Layable false k (fields_with k) x out 0 line.first
payment_first {k} few f own = put_first f (fields_first k few) own

-- ---- field i

module _ {head : Bool} {k n : ℕ} {x out : List ℕ} {i q : ℕ} (h : Layable head k n x out i q) where
  walk : At x (fields_of x) i q
  walk = record { inside = h.inside; here = h.here }

  -- the record is as long as before
  pub put_long : (ts : List (List ℕ)) {new : List ℕ} → new ≡ lay (record_of head k) ts → length new ≡ length out
  put_long ts e = ap length e ∙ lay_length (record_of head k) ts ∙ sym (ap length h.laid ∙ lay_length (record_of head k) (take i (fields_of x)))

  -- the cell of field i is c
  module _ (c : CodeCell) (is : c ≡ cell_at head i) where
    cell : (a : Cell) × ((c ≡ cell_of (some a)) × (get_elem? (cells 0 (record_of head k)) i ≡ some a))
    cell =
        let a = among_first (cells_of head) n i h.left h.line.1.0 in
        (a.0, (is ∙ ap cell_of a.1.1, ap (λ (cs : List Cell). get_elem? cs i) h.cells ∙ a.1.0))

    fits : (e : ℕ) → e ≡ q + reach tab (drop q x) → e - q ≤ c.width
    fits e r = narrow c (e - q) (field_wide head n x h.line walk h.left e r c is)

    -- there is room for field i
    pub put_room : c.place + reach tab (drop q x) ≤ length out
    put_room =
        let a = cell in
        let e = q + reach tab (drop q x) in
        let l = lay_room (record_of head k) (fields_of x) i a.0 (take (e - q) (drop q x)) a.1.1 (at_field e walk refl).2 in
        let p = ap (λ (y : CodeCell). y.place) a.1.0 in
        let w = ap (λ (y : CodeCell). y.width) a.1.0 in
        omega (arith, fits e refl, ap length h.laid)

    -- field i ends at e
    module _ (e : ℕ) (r : e ≡ q + reach tab (drop q x)) where
      pub put_inside : (q ≤ e) × (e ≤ length x)
      put_inside = let f = at_field e walk r in (f.0, f.1)

      module _ {new : List ℕ} (put : new ≡ over c.place (take (e - q) (drop q x)) out) where
        pub one_more : new ≡ lay (record_of head k) (take (i + 1) (fields_of x))
        one_more =
            let t = take (e - q) (drop q x) in
            let a = cell in
            let g = at_field e walk r in
            let long : length t ≡ e - q = length-take-le (e - q) (drop q x) (omega (arith, length-drop q x)) in
            let w = ap (λ (y : CodeCell). y.width) a.1.0 in
            let s = lay_over (record_of head k) (fields_of x) i a.0 t a.1.1 g.2 t (fills_itself (width a.0.kind) t (omega (arith, fits e r))) in
            put
            ∙ ap (λ (y : CodeCell). over y.place t out) a.1.0
            ∙ ap (over a.0.place t) h.laid
            ∙ s
            ∙ ap (λ (m : ℕ). lay (record_of head k) (take m (fields_of x))) (sym (add-one i))

        pub put_more : i + 1 < n → Layable head k n x new (i + 1) (e + 1)
        put_more left =
            let w = (at_next e walk r (omega (arith, formed_count head n x h.line))).1 in
            record { line = h.line; cells = h.cells; left = left; inside = w.inside; here = w.here; laid = one_more }

-- the fields before field i are put, and those are all
pub put_all : (head : Bool) (k n : ℕ) (x : List ℕ) (i : ℕ) → FormedLine head n x → n ≤ i → {out : List ℕ} → out ≡ lay (record_of head k) (take i (fields_of x))
    → out ≡ lay (record_of head k) (fields_of x)
put_all head k n x i f h laid =
    laid ∙ ap (lay (record_of head k)) (take_all i (fields_of x) (omega (arith, formed_count head n x f)))

-- ---- the numbers of a payment

module _ {k : ℕ} {x old : List ℕ} (h : Layable false k (fields_with k) x old 0 line.first) where
  pub numbers_inside : line.texts ≤ length x
  numbers_inside = texts_inside (fields_with k) x h.line (omega arith)

  -- all numbers are put: the texts are to come
  pub numbers_put : {new : List ℕ} → new ≡ lay (record_c k) (take numbers_of_payment_line (fields_of x)) → Layable false k (fields_with k) x new numbers_of_payment_line line.texts
  numbers_put e =
      let w = number_at (fields_with k) x h.line (omega arith) numbers_of_payment_line (omega arith) in
      record { line = h.line; cells = h.cells; left = omega arith; inside = w.inside; here = w.here; laid = e }

  -- number i is put, as wide as in the record
  pub put_number : (i : ℕ) → i < numbers_of_payment_line → {out new : List ℕ} → out ≡ lay (record_c k) (take i (fields_of x))
      → new ≡ over_if_room (field_of_c i).place (pad (field_of_c i).width (take (field_of_c i).width (drop (line_at i) x))) out
      → new ≡ lay (record_c k) (take (suc i) (fields_of x))
  put_number i l {out} o w =
      let q = line_at i in
      let e = q + (field_of_c i).width in
      let b = among_first (cells_of false) (fields_with k) i (omega arith) h.line.1.0 in
      let d : field_of_c i ≡ cell_of (some b.0) = fields_of_c_lem i (omega arith) ∙ ap cell_of b.1.1 in
      let here = ap (λ (cs : List Cell). get_elem? cs i) h.cells ∙ b.1.0 in
      let m : e - q ≡ (field_of_c i).width = omega arith in
      let t = take (field_of_c i).width (drop q x) in
      let at = rw m at (at_field e (number_at (fields_with k) x h.line (omega arith) i (omega arith)) (number_end (fields_with k) x h.line (omega arith) i l)).2 in
      w
      ∙ ap (λ (y : CodeCell). over_if_room y.place (pad y.width t) out) d
      ∙ ap (over_if_room b.0.place (pad (width b.0.kind) t)) o
      ∙ lay_step (record_c k) (fields_of x) i b.0 t here at

-- ---- a field byte by byte

-- the bytes of the field at q up to i are in the record from p on
pub record Copying (x old : List ℕ) (q p : ℕ) (out : List ℕ) (i : ℕ) : Type 0 where
  pub on : q ≤ i
  pub inside : i ≤ length x
  pub ahead : q + reach tab (drop q x) ≡ i + reach tab (drop i x)
  pub written : Writing old p (take (reach tab (drop q x)) (drop q x)) out (i - q)

whole_field : (x : List ℕ) (q : ℕ) → length (take (reach tab (drop q x)) (drop q x)) ≡ reach tab (drop q x)
whole_field x q = length-take-le (reach tab (drop q x)) (drop q x) (reach_le tab (drop q x))

pub copy_start : (x : List ℕ) (q : ℕ) (old : List ℕ) (p : ℕ) → q ≤ length x → p + reach tab (drop q x) ≤ length old → Copying x old q p old q
copy_start x q old p h r =
    let e : q - q ≡ 0 = omega arith in
    record {
      on = omega arith;
      inside = h;
      ahead = refl;
      written = rw e (writing_start old p (take (reach tab (drop q x)) (drop q x)) (omega (arith, whole_field x q)));
    }

module _ {x old out : List ℕ} {q p i : ℕ} (w : Copying x old q p out i) where
  -- there is room for one byte more
  pub copy_room : i < length x → (get_or x i 0 ≡ tab → ⊥) → p + (i - q) < length out
  copy_room h n = omega (arith, reach_on tab x i h n, whole_field x q, w.on, w.ahead, w.written.room, w.written.long)

  pub copy_more : i < length x → (get_or x i 0 ≡ tab → ⊥) → Copying x old q p (set out (p + (i - q)) (get_or x i 0)) (i + 1)
  copy_more h n =
      let on = w.on in
      let next : i + 1 ≡ suc i = omega arith in
      let long = whole_field x q in
      let ahead : q + reach tab (drop q x) ≡ suc i + reach tab (drop (suc i) x) = omega (arith, reach_on tab x i h n, w.ahead) in
      let k : i + 1 - q ≡ i - q + 1 = omega arith in
      let there : q + (i - q) ≡ i = omega arith in
      let b = get_or-take (reach tab (drop q x)) (drop q x) (i - q) 0 (omega arith) ∙ get_or-drop q x (i - q) 0 ∙ ap (λ m. get_or x m 0) there in
      record {
        on = omega arith;
        inside = omega arith;
        ahead = rw next ahead;
        written = rw k (writing_more (p + (i - q)) (get_or x i 0) w.written (omega arith) refl (sym b));
      }

  pub copy_end : reach tab (drop i x) ≡ 0 → (i ≡ q + reach tab (drop q x)) × (out ≡ over p (take (i - q) (drop q x)) old)
  copy_end z =
      let on = w.on in
      let n : reach tab (drop q x) ≡ i - q = omega (arith, w.ahead) in
      let long = whole_field x q in
      (omega (arith, w.ahead), rw n at (writing_end w.written (omega arith)))
