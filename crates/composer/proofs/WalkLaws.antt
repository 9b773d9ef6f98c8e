-- The walk from field to field of a line: where the first field stands, where a field ends, and where the next one begins.
-- `At x ts i q` is what the walk keeps: what stands from q on, parted at its tabs, are the fields from field i on. The first field stands behind
-- the letter and its tab (`at_first`). A field reaches to the next tab or to the end of the line; parted there it is the first of these fields
-- (`at_field`), and the next begins behind that tab (`at_next`), which must be there as long as a field is still to come.
use Prim.Native.Nat.{ℕ, zero, suc, ◌+◌, ◌-◌, ◌≤◌, ◌<◌}
use native.Mathlib.Decide.{dec_lt}
use native.Mathlib.Omega.{arith}
use mathlib.Core.Path.{◌≡◌, refl, sym, ap, ◌∙◌}
use mathlib.Core.Bool.{Bool, true, false}
use mathlib.Core.List.{List, [], ◌∷◌, ◌++◌, append_assoc}
use mathlib.Core.Option.{some}
use lib.ListN.{length, take, drop, get_elem?, length-append, length-drop, take-append-drop}
use lib.Seq.{drop-drop, length-take-le}
use lib.Dec.{T}
use Rattle.form.specs.Kind.{same}
use Rattle.form.proofs.BoolLaws.{T_of, and_both}
use Rattle.form.proofs.KindLaws.{same_eq}
use Rattle.listing.specs.Lines.{tab, behind_tabs, split}
use Rattle.listing.specs.Records.{formed}
use Rattle.listing.proofs.LineLaws.{clear, split_sign, line_from}
use Rattle.listing.proofs.RecordLaws.{formed_length}
use Rattle.layout.specs.Lines as line
use Rattle.layout.specs.Cells.{letter_of, cells_of}
use Rattle.layout.proofs.CellLaws.{letter_long}
use Rattle.line_reader.specs.Reaching.{reach}
use Rattle.line_reader.proofs.ReachLaws.{reach_le, pieces_more, pieces_last}
use Rattle.composer.specs.Telling.{line_formed, behind_letter, FormedLine}

-- ---- the letter

-- the line begins with its letter and a tab
abbrev pub begins : Bool → List ℕ → Bool
begins head x = same (letter_of head ++ (tab ∷ [])) (take line.first x)

letter_clear : (head : Bool) → T (clear tab (letter_of head))
letter_clear true = tt
letter_clear false = tt

module _ (head : Bool) (x : List ℕ) (h : begins head x ≡ true) where
  letter_first : letter_of head ++ (tab ∷ drop line.first x) ≡ x
  letter_first =
      sym (append_assoc (letter_of head) (tab ∷ []) (drop line.first x))
      ∙ ap (λ (l : List ℕ). l ++ drop line.first x) (same_eq (letter_of head ++ (tab ∷ [])) (take line.first x) (T_of h))
      ∙ take-append-drop line.first x

  pub letter_parted : split tab x ≡ letter_of head ∷ split tab (drop line.first x)
  letter_parted = ap (split tab) (sym letter_first) ∙ split_sign tab (letter_of head) (drop line.first x) (letter_clear head)

-- ---- a line of the form

fields_count : (head : Bool) (n : ℕ) (ts : List (List ℕ)) → n ≤ length (cells_of head) → line_formed head n ts ≡ true → length (behind_letter ts) ≡ n
fields_count head n [] few h = absurd (T_of h)
fields_count head n (t ∷ ts) few h =
    let f = and_both (same (letter_of head) t) (formed (take n (cells_of head)) ts) (T_of h) in
    sym (formed_length (take n (cells_of head)) ts f.1) ∙ length-take-le n (cells_of head) few

module _ (head : Bool) (n : ℕ) (x : List ℕ) (f : FormedLine head n x) where
  pub formed_count : length (behind_letter (split tab x)) ≡ n
  formed_count = fields_count head n (split tab x) f.1.0 f.1.1

  pub formed_begins : begins head x ≡ true
  formed_begins = by (split tab x) refl f.1.1 formed_count
    where
      first : (b : Bool) (l : List ℕ) → begins b (letter_of b ++ (tab ∷ l)) ≡ true
      first true l = refl
      first false l = refl

      by : (ts : List (List ℕ)) → split tab x ≡ ts → line_formed head n ts ≡ true → length (behind_letter ts) ≡ n → begins head x ≡ true
      by [] e h c = absurd (T_of h)
      by (t ∷ []) e h c = absurd (omega arith)
      by (t ∷ u ∷ us) e h c =
          let s = same_eq (letter_of head) t (and_both (same (letter_of head) t) (formed (take n (cells_of head)) (u ∷ us)) (T_of h)).0 in
          rw (← line_from x t (u ∷ us) e, ← s) (first head (u ++ behind_tabs us))

-- ---- the walk

-- ts are the fields of x behind the letter; field i stands at q
pub record At (x : List ℕ) (ts : List (List ℕ)) (i q : ℕ) : Type 0 where
  pub inside : q ≤ length x
  pub here : split tab (drop q x) ≡ drop i ts

-- the first field, in a line of which only the beginning is known
pub at_begun : (head : Bool) (x : List ℕ) → begins head x ≡ true → At x (behind_letter (split tab x)) 0 line.first
at_begun head x h = record {
  inside = omega (arith, letter_long head, length-append (letter_of head) (tab ∷ drop line.first x), ap length (letter_first head x h));
  here = ap behind_letter (sym (letter_parted head x h));
}

pub at_first : (head : Bool) (n : ℕ) (x : List ℕ) → FormedLine head n x → At x (behind_letter (split tab x)) 0 line.first
at_first head n x f = at_begun head x (formed_begins head n x f)

-- the element that a list has at i
element : {A : Type 0} (l : List A) (i : ℕ) (a : A) (rest : List A) → drop i l ≡ a ∷ rest → get_elem? l i ≡ some a
element [] zero a rest e = cc
element [] (suc i) a rest e = cc
element (b ∷ bs) zero a rest e = cc
element (b ∷ bs) (suc i) a rest e = element bs i a rest e

-- field i ends at e
module _ {x : List ℕ} {ts : List (List ℕ)} {i q : ℕ} (e : ℕ) (w : At x ts i q) (r : e ≡ q + reach tab (drop q x)) where
  apart : e - q ≡ reach tab (drop q x)
  apart = omega arith

  ends : e ≤ length x
  ends = omega (arith, reach_le tab (drop q x), length-drop q x)

  more : e < length x → drop i ts ≡ take (e - q) (drop q x) ∷ split tab (drop (e + 1) x)
  more h =
      let k : q + suc (e - q) ≡ e + 1 = omega arith in
      sym w.here ∙ rw k at (pieces_more tab x q (e - q) apart (omega arith))

  last : length x ≤ e → drop i ts ≡ take (e - q) (drop q x) ∷ []
  last h = sym w.here ∙ pieces_last tab x q (e - q) apart (omega (arith, ends))

  pub at_field : (q ≤ e) × (e ≤ length x) × (get_elem? ts i ≡ some (take (e - q) (drop q x)))
  at_field = (omega arith, ends, by (dec_lt e (length x)))
    where
      by : Dec (e < length x) → get_elem? ts i ≡ some (take (e - q) (drop q x))
      by (yes h) = element ts i (take (e - q) (drop q x)) (split tab (drop (e + 1) x)) (more h)
      by (no h) = element ts i (take (e - q) (drop q x)) [] (last (omega arith))

  pub at_next : i + 1 < length ts → (e < length x) × At x ts (i + 1) (e + 1)
  at_next l = by (dec_lt e (length x))
    where
      by : Dec (e < length x) → (e < length x) × At x ts (i + 1) (e + 1)
      by (yes h) = (h, record { inside = omega arith; here = sym (ap (drop 1) (more h)) ∙ drop-drop 1 i ts })
      by (no h) = absurd (omega (arith, length-drop i ts, ap length (last (omega arith))))
