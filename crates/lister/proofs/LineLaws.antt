-- The line of a record, field by field: what one field more adds, and how long it is.
-- By induction over the cells (`cell_lies`) field i lies in the file, and what is printed of it comes right behind the fields before it, with a
-- tab between (`tabbed_more`). A loop that counts keeps `Counting`: so far it has the letter, the line's end and i fields, and with all n fields
-- that is the length of the line (`line_long`). No field is printed wider than its cell, so the widths of all cells, 631 bytes, bound every
-- count (`count_short`), and none wraps.
use Prim.Native.Nat.{ℕ, zero, suc, ◌+◌, ◌-◌, ◌≤◌, ◌<◌}
use native.Mathlib.Nat.{add-sub_cancel_left}
use native.Mathlib.Numerals.{add-one}
use native.Mathlib.Omega.{arith}
use mathlib.Core.Path.{◌≡◌, refl, sym, ap, subst, ◌∙◌}
use mathlib.Core.Bool.{Bool, true, false}
use mathlib.Core.List.{List, [], ◌∷◌, ◌++◌, append_assoc, append-nil}
use lib.ListN.{length, take, drop, get_elem?, length-append, length-take}
use lib.Dec.{T, leb, leb→le, lit≤}
use Rattle.form.specs.Kind.{every, width}
use Rattle.form.proofs.BoolLaws.{and_both}
use Rattle.listing.specs.Lines.{tab, line_end, behind_tabs, trim}
use Rattle.listing.specs.Records.{Cell, cut}
use Rattle.listing.proofs.LineLaws.{length_trim}
use Rattle.layout.specs.declared.Cell.{Cell as CodeCell}
use Rattle.layout.specs.Cells.{letter_of, cells_of, cell_of, cell_at}
use Rattle.layout.proofs.CellLaws.{letter_long}
use Rattle.lister.specs.Printing.{line_at, Lies, printed_cell}

-- the fields in these cells of the record at p, each behind a tab
abbrev pub tabbed : List ℕ → ℕ → List Cell → List ℕ
tabbed f p cs = behind_tabs (cut f p cs)

-- ---- one field more

-- a cell of the code: it lies in the file, and what stands in it follows the fields before it
pub record Lying (f : List ℕ) (p : ℕ) (cs : List Cell) (i : ℕ) (c : CodeCell) : Type 0 where
  pub inside : p + (c.place + c.width) ≤ length f
  pub more : cut f p (take (suc i) cs) ≡ cut f p (take i cs) ++ (printed_cell c f p ∷ [])

cell_lies : (f : List ℕ) (p : ℕ) (cs : List Cell) (n i : ℕ) → i < n → n ≤ length cs
    → T (every (λ (c : Cell). leb (p + (c.place + width c.kind)) (length f)) (take n cs)) → Lying f p cs i (cell_of (get_elem? cs i))
cell_lies f p [] n i h l t = absurd (omega arith)
cell_lies f p (c ∷ cs) zero i h l t = absurd (omega arith)
cell_lies f p (c ∷ cs) (suc n) zero h l t =
    let end = p + (c.place + width c.kind) in
    record { inside = leb→le end (length f) (and_both (leb end (length f)) _ t).0; more = refl }
cell_lies f p (c ∷ cs) (suc n) (suc i) h l t =
    let r = cell_lies f p cs n i (omega arith) (omega arith) (and_both (leb (p + (c.place + width c.kind)) (length f)) _ t).1 in
    record { inside = r.inside; more = ap (λ ts. trim (take (width c.kind) (drop (p + c.place) f)) ∷ ts) r.more }

pub lying : (head : Bool) (n : ℕ) (f : List ℕ) (p : ℕ) → Lies head n f p → (i : ℕ) → i < n → (c : CodeCell) → c ≡ cell_at head i
    → Lying f p (cells_of head) i c
lying head n f p l i h c e = subst (Lying f p (cells_of head) i) (sym e) (cell_lies f p (cells_of head) n i h l.0 l.1)

tabs_more : (ts : List (List ℕ)) (t : List ℕ) → behind_tabs (ts ++ (t ∷ [])) ≡ behind_tabs ts ++ (tab ∷ t)
tabs_more [] t = append-nil (tab ∷ t)
tabs_more (u ∷ us) t = ap (λ bs. (tab ∷ u) ++ bs) (tabs_more us t) ∙ sym (append_assoc (tab ∷ u) (behind_tabs us) (tab ∷ t))

-- bytes of the file as the code takes them, from a place to another
pub part_is : (a w : ℕ) (f : List ℕ) → take (a + w - a) (drop a f) ≡ take w (drop a f)
part_is a w f = rw (add-sub_cancel_left a w)

-- the width that the code finds is that of what is printed
pub width_is : (a w : ℕ) (f : List ℕ) {n : ℕ} → n ≡ length (trim (take (a + w - a) (drop a f))) → n ≡ length (trim (take w (drop a f)))
width_is a w f e = e ∙ ap (λ bs. length (trim bs)) (part_is a w f)

tabbed_more : {f : List ℕ} {p : ℕ} {cs : List Cell} {i : ℕ} {c : CodeCell} → Lying f p cs i c
    → tabbed f p (take (i + 1) cs) ≡ tabbed f p (take i cs) ++ (tab ∷ printed_cell c f p)
tabbed_more {f} {p} {cs} {i} {c} l = rw (add-one i, l.more) (tabs_more (cut f p (take i cs)) (printed_cell c f p))

-- ---- lengths

-- the most that these cells take in a line
abbrev pub across : List Cell → ℕ
across [] = 0
across (c ∷ cs) = suc (width c.kind) + across cs

pub tabbed_across : (f : List ℕ) (p : ℕ) (cs : List Cell) → length (tabbed f p cs) ≤ across cs
tabbed_across f p [] = omega arith
tabbed_across f p (c ∷ cs) =
    let field = take (width c.kind) (drop (p + c.place) f) in
    let l = length-append (tab ∷ trim field) (tabbed f p cs) in
    omega (arith, length_trim field, length-take (width c.kind) (drop (p + c.place) f), tabbed_across f p cs)

across_take : (n : ℕ) (cs : List Cell) → across (take n cs) ≤ across cs
across_take zero cs = omega arith
across_take (suc n) [] = omega arith
across_take (suc n) (c ∷ cs) = omega (arith, across_take n cs)

across_all : (head : Bool) → across (cells_of head) ≤ 631
across_all true = lit≤ tt
across_all false = lit≤ tt

-- the fields of a line, with their tabs, take at most 631 bytes
tabbed_short : (head : Bool) (n : ℕ) (f : List ℕ) (p : ℕ) → length (tabbed f p (take n (cells_of head))) ≤ 631
tabbed_short head n f p =
    omega (arith, tabbed_across f p (take n (cells_of head)), across_take n (cells_of head), across_all head)

-- a line is as long as its fields, and two bytes more for the letter and the line's end
pub line_long : (head : Bool) (n : ℕ) (f : List ℕ) (p : ℕ) → length (line_at head n f p) ≡ 2 + length (tabbed f p (take n (cells_of head)))
line_long head n f p =
    let t = tabbed f p (take n (cells_of head)) in
    omega (arith, letter_long head, length-append (letter_of head) (t ++ (line_end ∷ [])), length-append t (line_end ∷ []))

-- ---- counting

-- m bytes: the letter and the line's end with i of the n fields
pub record Counting (head : Bool) (n : ℕ) (f : List ℕ) (p m i : ℕ) : Type 0 where
  pub inside : i ≤ n
  pub counts : m ≡ 2 + length (tabbed f p (take i (cells_of head)))

module _ {head : Bool} {n : ℕ} {f : List ℕ} {p m i : ℕ} (s : Counting head n f p m i) where
  pub count_short : m ≤ 633
  count_short = omega (arith, s.counts, tabbed_short head i f p)

  pub count_more : {c : CodeCell} → Lying f p (cells_of head) i c → i < n → {w : ℕ} → w ≡ length (printed_cell c f p)
      → Counting head n f p (m + (1 + w)) (i + 1)
  count_more {c} l h {w} e =
      let t = tabbed f p (take i (cells_of head)) in
      let more : length (tabbed f p (take (i + 1) (cells_of head))) ≡ length t + suc (length (printed_cell c f p))
      = ap length (tabbed_more l) ∙ length-append t (tab ∷ printed_cell c f p) in
      record { inside = omega arith; counts = omega (arith, s.counts) }
