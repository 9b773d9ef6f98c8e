-- How wide the fields of a line of its form are: none is wider than in the record, and the numbers with which a payment's line begins are as wide.
-- A line of its form has in each field a width that the field's cell allows (`each_wide`, by induction over cells and fields); a cell that is
-- neither text nor optional allows its own alone. So each number of a payment's line ends where its width does, and the next begins behind a
-- tab: by induction number i stands at the place that the layout has for it (`number_at`, with `numbers_next` computed), and the first text
-- stands behind all of them.
use Prim.Native.Nat.{ℕ, zero, suc, ◌+◌, ◌-◌, ◌≤◌, ◌<◌}
use native.Mathlib.Numerals.{add-one}
use native.Mathlib.Omega.{arith}
use mathlib.Core.Path.{◌≡◌, refl, sym, ap, subst, ◌∙◌}
use mathlib.Core.Logic.{⊎_elim}
use mathlib.Core.Bool.{Bool, true, false, ◌&&◌, ◌||◌, not}
use mathlib.Core.List.{List, [], ◌∷◌, ◌++◌}
use mathlib.Core.Option.{some}
use lib.ListN.{length, take, drop, get_or, get_elem?, length-drop}
use lib.Seq.{length-take-le}
use lib.Dec.{T, leb, eqb}
use borrow.Author.Tests.{eqb-true, leb-true, lt-leb}
use Rattle.form.specs.Kind.{same}
use Rattle.form.proofs.BelowLaws.{below, agree}
use Rattle.form.proofs.BoolLaws.{T_of, is_true, and_both, or_cases}
use Rattle.listing.specs.Lines.{tab, split, ends_in_blank}
use Rattle.listing.specs.Records.{numbers_of_payment_line, Cell, wide, field_formed, formed}
use Rattle.layout.specs.declared.Cell.{Cell as CodeCell}
use Rattle.layout.specs.Lines as line
use Rattle.layout.specs.Cells.{letter_of, cell_of, cells_of, cell_at}
use Rattle.line_reader.specs.Reaching.{reach}
use Rattle.layout.proofs.CellLaws.{field_of_c, fields_of_c_lem}
use Rattle.composer.specs.Telling.{wide_as, line_formed, behind_letter, FormedLine}
use Rattle.composer.proofs.WalkLaws.{formed_count, At, at_first, at_field, at_next}
use Rattle.composer.proofs.FormLaws.{fields_of, all_fields, wide_as_lem}

-- ---- the width of a field, by its cell

-- no field is wider than its cell
pub narrow : (c : CodeCell) (n : ℕ) → T (wide_as c n) → n ≤ c.width
narrow c n h = ⊎_elim full (λ g. ⊎_elim short none (or_cases may_be_short may_miss g)) (or_cases (eqb n c.width) (may_be_short || may_miss) h)
  where
    may_be_short : Bool
    may_be_short = c.text && leb n c.width

    may_miss : Bool
    may_miss = c.optional && eqb n 0

    full : T (eqb n c.width) → n ≤ c.width
    full t = omega (arith, eqb-true n c.width (is_true _ t))

    short : T (c.text && leb n c.width) → n ≤ c.width
    short t = leb-true n c.width (is_true _ (and_both c.text (leb n c.width) t).1)

    none : T (c.optional && eqb n 0) → n ≤ c.width
    none t = omega (arith, eqb-true n 0 (is_true _ (and_both c.optional (eqb n 0) t).1))

-- a number is as wide as its cell
full_width : (n w : ℕ) → T (eqb n w || false) → n ≡ w
full_width n w h = ⊎_elim (λ t. eqb-true n w (is_true _ t)) (λ t. absurd t) (or_cases (eqb n w) false h)

-- ---- each field of a line

each_wide : (cs : List Cell) (ts : List (List ℕ)) (i : ℕ) (c : Cell) (t : List ℕ) → T (formed cs ts) → get_elem? cs i ≡ some c → get_elem? ts i ≡ some t
    → T (wide c.kind (length t))
each_wide [] ts i c t h e f = absurd cc
each_wide (d ∷ cs) [] i c t h e f = absurd cc
each_wide (d ∷ cs) (u ∷ ts) zero c t h e f =
    let x : d ≡ c = cc in
    let y : u ≡ t = cc in
    let g = (and_both (wide d.kind (length u)) (not (ends_in_blank u)) (and_both (field_formed d.kind u) (formed cs ts) h).0).0 in
    subst (λ (k : Cell). T (wide k.kind (length t))) x (subst (λ (v : List ℕ). T (wide d.kind (length v))) y g)
each_wide (d ∷ cs) (u ∷ ts) (suc i) c t h e f = each_wide cs ts i c t (and_both (field_formed d.kind u) (formed cs ts) h).1 e f

-- one of the first n of a list is the same in the list and in these
pub among_first : {A : Type 0} (l : List A) (n i : ℕ) → i < n → n ≤ length l → (a : A) × ((get_elem? (take n l) i ≡ some a) × (get_elem? l i ≡ some a))
among_first l zero i h g = absurd (omega arith)
among_first [] (suc n) i h g = absurd (omega arith)
among_first (x ∷ xs) (suc n) zero h g = (x, (refl, refl))
among_first (x ∷ xs) (suc n) (suc i) h g = among_first xs n i (omega arith) (omega arith)

behind_formed : (head : Bool) (n : ℕ) (ts : List (List ℕ)) → line_formed head n ts ≡ true → T (formed (take n (cells_of head)) (behind_letter ts))
behind_formed head n [] h = absurd (T_of h)
behind_formed head n (t ∷ ts) h = (and_both (same (letter_of head) t) (formed (take n (cells_of head)) ts) (T_of h)).1

-- field i, which stands at q and ends at e, has a width that its cell c allows
pub field_wide : (head : Bool) (n : ℕ) (x : List ℕ) → FormedLine head n x → {i q : ℕ} → At x (fields_of x) i q → i < n
    → (e : ℕ) → e ≡ q + reach tab (drop q x) → (c : CodeCell) → c ≡ cell_at head i → T (wide_as c (e - q))
field_wide head n x f {i} {q} w before e r c is =
    let a = among_first (cells_of head) n i before f.1.0 in
    let g = at_field e w r in
    let t = take (e - q) (drop q x) in
    let long : length t ≡ e - q = length-take-le (e - q) (drop q x) (omega (arith, length-drop q x)) in
    let h = each_wide (take n (cells_of head)) (fields_of x) i a.0 t (behind_formed head n (split tab x) f.1.1) a.1.0 g.2 in
    let same : c ≡ cell_of (some a.0) = is ∙ ap cell_of a.1.1 in
    subst (λ (m : ℕ). T (wide_as c m)) long
    (subst (λ (d : CodeCell). T (wide_as d (length t))) (sym same) (subst T (sym (wide_as_lem a.0.place a.0.kind (length t))) h))

-- ---- the numbers of a payment

-- where in the line the numbers stand, and the field behind them
abbrev pub line_at : ℕ → ℕ
line_at i = get_or (line.numbers_of_line ++ (line.texts ∷ [])) i 0

numbers_next : (i : ℕ) → i < numbers_of_payment_line → line_at i + (field_of_c i).width + 1 ≡ line_at (suc i)
unfolding below
numbers_next i h = agree (λ i. line_at i + (field_of_c i).width + 1) (λ i. line_at (suc i)) numbers_of_payment_line i refl h

numbers_full : (i n : ℕ) → i < numbers_of_payment_line → T (wide_as (field_of_c i) n) → n ≡ (field_of_c i).width
numbers_full i n h t =
    full_width n (field_of_c i).width
    (subst (λ (b : Bool). T (eqb n (field_of_c i).width || ((b && leb n (field_of_c i).width) || false))) (lt-leb numbers_of_payment_line i h) t)

module _ (n : ℕ) (x : List ℕ) (f : FormedLine false n x) (some_left : numbers_of_payment_line < n) where
  number_ends : (i : ℕ) → i < numbers_of_payment_line → At x (fields_of x) i (line_at i) → line_at i + (field_of_c i).width ≡ line_at i + reach tab (drop (line_at i) x)
  number_ends i h w =
      let e = line_at i + reach tab (drop (line_at i) x) in
      let k = numbers_full i (e - line_at i) h (field_wide false n x f w (omega arith) e refl (field_of_c i) (fields_of_c_lem i (omega arith))) in
      omega arith

  -- number i stands at its place, and the first text behind the numbers
  pub number_at : (i : ℕ) → i ≤ numbers_of_payment_line → At x (fields_of x) i (line_at i)
  number_at zero h = at_first false n x f
  number_at (suc i) h =
      let w = number_at i (omega arith) in
      let k = number_ends i (omega arith) w in
      let next = (at_next (line_at i + (field_of_c i).width) w k (omega (arith, formed_count false n x f))).1 in
      rw (add-one i, numbers_next i (omega arith)) at next

  -- number i ends where its width does
  pub number_end : (i : ℕ) → i < numbers_of_payment_line → line_at i + (field_of_c i).width ≡ line_at i + reach tab (drop (line_at i) x)
  number_end i h = number_ends i h (number_at i (omega arith))

  -- the other fields stand behind the numbers
  pub texts_inside : line.texts ≤ length x
  texts_inside = (number_at numbers_of_payment_line (omega arith)).inside

  pub texts_behind : length (split tab x) ≡ suc numbers_of_payment_line + length (split tab (drop line.texts x))
  texts_behind =
      let e = ap length (number_at numbers_of_payment_line (omega arith)).here ∙ length-drop numbers_of_payment_line (fields_of x) in
      omega (arith, all_fields x, formed_count false n x f)
