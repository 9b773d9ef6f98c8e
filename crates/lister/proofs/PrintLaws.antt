-- Bytes printed into the output, stretch by stretch, and what the stretches of a line are.
-- `Going` is kept from stretch to stretch: what is still to come, written where the code stands, makes the output what it was to become. A
-- stretch that is printed goes off the front of what is still to come (`going_more`, by `over_next`), be it a field, all numbers, or mark and
-- text of a part (`rest_field`, `rest_numbers`, `rest_part`). Where nothing is still to come, all is written (`going_done`).
use Prim.Native.Nat.{ℕ, zero, suc, ◌+◌, ◌-◌, ◌≤◌, ◌<◌}
use native.Mathlib.Nat.{add-zero}
use native.Mathlib.Numerals.{add-one}
use native.Mathlib.Omega.{arith}
use mathlib.Core.Path.{◌≡◌, refl, sym, ap, ap₂, subst, ◌∙◌}
use mathlib.Core.Bool.{Bool, false}
use mathlib.Core.List.{List, [], ◌∷◌, ◌++◌, append_assoc, append-nil}
use lib.ListN.{length, take, drop, set, get_elem?, length-append, length-take}
use lib.Seq.{take-take}
use Rattle.form.specs.Kind.{width}
use Rattle.listing.specs.Lines.{tab, line_end, behind_tabs, trim}
use Rattle.listing.specs.Records.{numbers_of_payment_line, fields_with, Cell, cut}
use Rattle.listing.proofs.LineLaws.{length_trim, trim_take}
use Rattle.layout.specs.declared.Cell.{Cell as CodeCell}
use Rattle.output.specs.Writing.{over, over_if_room}
use Rattle.layout.specs.Cells.{cells_of, cell_of, cell_at}
use Rattle.output.proofs.OverLaws.{over_room, over_length, over_nothing, over_next, over_more}
use Rattle.lister.specs.declared.Pen.{Pen}
use Rattle.lister.specs.Printing.{Lies, printed_cell, printed_field, numbers_at, part_at, HasRoom, Wrote}
use Rattle.lister.proofs.LineLaws.{tabbed, part_is}

-- ---- one field

module _ (a w : ℕ) (f : List ℕ) {n : ℕ} (e : n ≡ length (trim (take w (drop a f)))) where
  -- what is printed of a field has no more bytes than the field
  pub printed_narrow : n ≤ w
  printed_narrow = omega (arith, length_trim (take w (drop a f)), length-take w (drop a f))

  -- the first n bytes of the field are what is printed of it
  pub bytes_are : take (a + n - a) (drop a f) ≡ trim (take w (drop a f))
  bytes_are =
      let field = take w (drop a f) in
      part_is a n f ∙ sym (take-take n w (drop a f) printed_narrow) ∙ ap (λ m. take m field) e ∙ trim_take field

-- the cell of field i, as the code has it
module _ (head : Bool) (i : ℕ) (f : List ℕ) (p : ℕ) {c : CodeCell} (e : c ≡ cell_at head i) where
  pub cell_printed : printed_cell c f p ≡ printed_field head i f p
  cell_printed = ap (λ (x : CodeCell). printed_cell x f p) e

  -- all bytes of the cell are printed
  pub cell_full : length (printed_field head i f p) ≡ (cell_at head i).width → c.width ≡ length (printed_cell c f p)
  cell_full l = subst (λ (x : CodeCell). x.width ≡ length (printed_cell x f p)) (sym e) (sym l)

-- a byte set is a byte written over
pub set_over : (q b : ℕ) (old : List ℕ) → q < length old → set old q b ≡ over q (b ∷ []) old
set_over q b old h = ap₂ (λ o j. set o j b) (sym (over_nothing q old)) (sym (add-zero q)) ∙ over_more q b [] old (omega arith)

-- of two stretches the first is printed: there is room for the other, and printed behind it both stand there
pub stretch : (t u : List ℕ) {old new : Pen} → HasRoom (t ++ u) old → Wrote t old new
    → HasRoom u new × (new.at + length u ≡ old.at + length (t ++ u)) × (over new.at u new.out.now ≡ over old.at (t ++ u) old.out.now)
stretch t u {old} {new} r w =
    let both = length-append t u in
    let fits : old.at + (length t + length u) ≤ length old.out.now = omega (arith, both, r) in
    let long : length new.out.now ≡ length old.out.now = ap length w.out ∙ over_length old.at t old.out.now (omega arith) in (
      omega (arith, w.place),
      omega (arith, w.place, both),
      ap₂ (λ j b. over j u b) w.place w.out ∙ over_next old.at t u old.out.now fits,
    )

-- and once the other is printed too, both are
pub wrote_on : (t u : List ℕ) {old mid new : Pen} → HasRoom (t ++ u) old → Wrote t old mid → Wrote u mid new → Wrote (t ++ u) old new
wrote_on t u r w x =
    let s = stretch t u r w in record { same_reference = x.same_reference ∙ w.same_reference; place = x.place ∙ s.1; out = x.out ∙ s.2 }

-- bytes copied behind a tab are printed with it
pub behind_tab_lem : (t : List ℕ) {old mid : Pen} → HasRoom (tab ∷ t) old → Wrote (tab ∷ []) old mid → {out : List ℕ} → out ≡ over_if_room mid.at t mid.out.now
    → out ≡ over old.at (tab ∷ t) old.out.now
behind_tab_lem t {old} {mid} r w e =
    let s = stretch (tab ∷ []) t r w in
    e ∙ over_room mid.at t mid.out.now s.0 ∙ s.2

-- ---- one stretch after another

-- `rest i` is what comes from field i on. All of `whole` was to be printed by the pen `old`, and the pen `new` has come to field i: with what comes
-- from there on, the output is what it was to become
pub record Going (rest : ℕ → List ℕ) (whole : List ℕ) (old new : Pen) (i : ℕ) : Type 0 where
  pub same_reference : new.out.ghost_name ≡ old.out.ghost_name
  pub room : HasRoom (rest i) new
  pub place : new.at + length (rest i) ≡ old.at + length whole
  pub written : over new.at (rest i) new.out.now ≡ over old.at whole old.out.now

-- the first stretch is printed, and then field k comes
pub going_from : {rest : ℕ → List ℕ} {whole : List ℕ} {old new : Pen} (t : List ℕ) (k : ℕ) → whole ≡ t ++ rest k → HasRoom whole old → Wrote t old new
    → Going rest whole old new k
going_from {rest} {whole} {old} t k m r w =
    let s = stretch t (rest k) (subst (λ bs. HasRoom bs old) m r) w in
    record {
      same_reference = w.same_reference;
      room = s.0;
      place = s.1 ∙ ap (λ bs. old.at + length bs) (sym m);
      written = s.2 ∙ ap (λ bs. over old.at bs old.out.now) (sym m);
    }

module _ {rest : ℕ → List ℕ} {whole : List ℕ} {old mid : Pen} {i : ℕ} (g : Going rest whole old mid i) where
  -- where nothing more comes, all is printed
  pub going_done : rest i ≡ [] → Wrote whole old mid
  going_done e =
      let none : length (rest i) ≡ 0 = ap length e in
      record {
        same_reference = g.same_reference;
        place = omega (arith, g.place);
        out = sym (over_nothing mid.at mid.out.now) ∙ ap (λ bs. over mid.at bs mid.out.now) (sym e) ∙ g.written;
      }

  -- a stretch comes, and nothing more
  pub going_last : (t : List ℕ) → rest i ≡ t ++ [] → {new : Pen} → Wrote t mid new → Wrote whole old new
  going_last t e w =
      let all : rest i ≡ t = e ∙ append-nil t in
      let long : length (rest i) ≡ length t = ap length all in
      record {
        same_reference = w.same_reference ∙ g.same_reference;
        place = omega (arith, w.place, g.place);
        out = w.out ∙ ap (λ bs. over mid.at bs mid.out.now) (sym all) ∙ g.written;
      }

  -- a stretch comes, and then field k
  module _ (t : List ℕ) (k : ℕ) (m : rest i ≡ t ++ rest k) where
    pub going_room : HasRoom t mid
    going_room = omega (arith, ap length m, length-append t (rest k), g.room)

    pub going_more : {new : Pen} → Wrote t mid new → Going rest whole old new k
    going_more w =
        let s = stretch t (rest k) (subst (λ bs. HasRoom bs mid) m g.room) w in
        record {
          same_reference = w.same_reference ∙ g.same_reference;
          room = s.0;
          place = s.1 ∙ ap (λ bs. mid.at + length bs) (sym m) ∙ g.place;
          written = s.2 ∙ ap (λ bs. over mid.at bs mid.out.now) (sym m) ∙ g.written;
        }

-- ---- what comes of a line

cut_more : (f : List ℕ) (p : ℕ) (cs : List Cell) (n i : ℕ) → i < n → n ≤ length cs
    → cut f p (drop i (take n cs)) ≡ printed_cell (cell_of (get_elem? cs i)) f p ∷ cut f p (drop (suc i) (take n cs))
cut_more f p [] n i h l = absurd (omega arith)
cut_more f p (c ∷ cs) zero i h l = absurd (omega arith)
cut_more f p (c ∷ cs) (suc n) zero h l = refl
cut_more f p (c ∷ cs) (suc n) (suc i) h l = cut_more f p cs n i (omega arith) (omega arith)

cut_parted : (f : List ℕ) (p : ℕ) (cs : List Cell) (n m : ℕ) → m ≤ n → tabbed f p (take n cs) ≡ tabbed f p (take m cs) ++ tabbed f p (drop m (take n cs))
cut_parted f p cs n zero h = refl
cut_parted f p cs zero (suc m) h = absurd (omega arith)
cut_parted f p [] (suc n) (suc m) h = refl
cut_parted f p (c ∷ cs) (suc n) (suc m) h =
    let t = tab ∷ trim (take (width c.kind) (drop (p + c.place) f)) in
    ap (λ bs. t ++ bs) (cut_parted f p cs n m (omega arith)) ∙ sym (append_assoc t (tabbed f p (take m cs)) (tabbed f p (drop m (take n cs))))

-- of the numbers that the line of a payment begins with, those from number i on
abbrev pub numbers_from : List ℕ → ℕ → ℕ → List ℕ
numbers_from f p i = tabbed f p (drop i (take numbers_of_payment_line (cells_of false)))

pub numbers_more : (f : List ℕ) (p i : ℕ) → i < numbers_of_payment_line → numbers_from f p i ≡ (tab ∷ printed_field false i f p) ++ numbers_from f p (i + 1)
numbers_more f p i h = rw (add-one i) (ap behind_tabs (cut_more f p (cells_of false) numbers_of_payment_line i h (omega arith)))

-- of a line what comes from field i on, with the line's end
abbrev pub rest_of : Bool → ℕ → List ℕ → ℕ → ℕ → List ℕ
rest_of head n f p i = tabbed f p (drop i (take n (cells_of head))) ++ (line_end ∷ [])

module _ (head : Bool) (n : ℕ) (f : List ℕ) (p : ℕ) (l : Lies head n f p) where
  pub rest_field : (i : ℕ) → i < n → rest_of head n f p i ≡ (tab ∷ printed_field head i f p) ++ rest_of head n f p (i + 1)
  rest_field i h =
      rw (cut_more f p (cells_of head) n i h l.0, add-one i)
      (append_assoc (tab ∷ printed_field head i f p) (tabbed f p (drop (suc i) (take n (cells_of head)))) (line_end ∷ []))

-- the line of a payment has numbers first and parts last
module _ (n : ℕ) (f : List ℕ) (p : ℕ) (l : Lies false n f p) where
  pub rest_numbers : numbers_of_payment_line ≤ n → rest_of false n f p 0 ≡ numbers_at f p ++ rest_of false n f p numbers_of_payment_line
  rest_numbers h =
      ap (λ bs. bs ++ (line_end ∷ [])) (cut_parted f p (cells_of false) n numbers_of_payment_line h)
      ∙ append_assoc (numbers_at f p) (tabbed f p (drop numbers_of_payment_line (take n (cells_of false)))) (line_end ∷ [])

  pub rest_part : (part : ℕ) → fields_with part + 1 < n → rest_of false n f p (fields_with part) ≡ part_at part f p ++ rest_of false n f p (fields_with (part + 1))
  rest_part part h =
      let mark = fields_with part in
      let m = tab ∷ printed_field false mark f p in
      let t = tab ∷ printed_field false (mark + 1) f p in
      let next : mark + 1 + 1 ≡ fields_with (part + 1) = omega arith in
      rest_field false n f p l mark (omega arith)
      ∙ ap (λ bs. m ++ bs) (rest_field false n f p l (mark + 1) h ∙ ap (λ i. t ++ rest_of false n f p i) next)
      ∙ sym (append_assoc m t (rest_of false n f p (fields_with (part + 1))))
