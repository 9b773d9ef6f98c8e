-- Bytes written over others: where there is room for them, what is there then, and how one writing goes on where another ended.
use Prim.Native.Nat.{ℕ, suc, ◌+◌, ◌-◌, ◌≤◌}
use native.Mathlib.Nat.{zero-add, add_assoc}
use native.Mathlib.Omega.{arith}
use mathlib.Core.Path.{◌≡◌, sym, ap, ◌∙◌}
use mathlib.Core.List.{List, [], ◌∷◌, ◌++◌, append_assoc}
use lib.ListN.{length, take, drop, get_or, set, length-append, take-append-drop}
use lib.Seq.{take-suc, append_snoc, set_at, take-append-add, drop-append-add, drop-drop, drop_at, length-take-le, sets, length-sets, sets-eq}
use borrow.Rule.Slice.PartMut.{put_mid}
use borrow.Author.Tests.{le-leb}
use Rattle.output.specs.Writing.{over, over_if_room}

-- ---- whether there is room

module _ (p : ℕ) (bs old : List ℕ) where
  pub over_room : p + length bs ≤ length old → over_if_room p bs old ≡ over p bs old
  unfolding over_if_room
  over_room h = rw (le-leb (p + length bs) (length old) h)

  -- bytes written over others are what setting byte after byte gives
  by_sets : p + length bs ≤ length old → sets old p bs ≡ over p bs old
  by_sets h = sets-eq bs old p h ∙ append_assoc (take p old) bs (drop (p + length bs) old)

  pub over_length : p + length bs ≤ length old → length (over p bs old) ≡ length old
  over_length h = sym (ap length (by_sets h)) ∙ length-sets old p bs

-- ---- what is written

pub over_nothing : (p : ℕ) (old : List ℕ) → over p [] old ≡ old
over_nothing p old = let e : p + 0 ≡ p = omega arith in rw e (take-append-drop p old)

pub over_first : (bs old : List ℕ) → over 0 bs old ≡ bs ++ drop (length bs) old
over_first bs old = rw zero-add

pub over_here : (x bs old : List ℕ) → length x ≡ length bs → over 0 bs (x ++ old) ≡ bs ++ old
over_here x bs old e = over_first bs (x ++ old) ∙ rw (drop_at x old (length bs) e)

pub over_behind : (p : ℕ) (a bs old : List ℕ) → over (length a + p) bs (a ++ old) ≡ a ++ over p bs old
over_behind p a bs old =
    rw (take-append-add a old p, add_assoc (length a) p (length bs), drop-append-add a old (p + length bs)) (append_assoc a (take p old) _)

-- a part of the output, from p up to q, that holds other bytes now
pub part_over : (p q : ℕ) (bs old : List ℕ) → q ≡ p + length bs → put_mid p (q - p) old bs ≡ over p bs old
part_over p q bs old e =
    let f : p + (q - p) ≡ p + length bs = omega arith in
    ap (λ (l : List ℕ). take p old ++ (bs ++ l)) (drop-drop (q - p) p old ∙ ap (λ (n : ℕ). drop n old) f)

-- ---- one after another

sets_append : (l : List ℕ) (i : ℕ) (a b : List ℕ) → sets (sets l i a) (i + length a) b ≡ sets l i (a ++ b)
sets_append l i [] b = let e : i + 0 ≡ i = omega arith in rw e
sets_append l i (x ∷ xs) b = let e : i + suc (length xs) ≡ suc i + length xs = omega arith in rw e (sets_append (set l i x) (suc i) xs b)

-- writing on behind what was written
pub over_next : (p : ℕ) (a b old : List ℕ) → p + (length a + length b) ≤ length old → over (p + length a) b (over p a old) ≡ over p (a ++ b) old
over_next p a b old h =
    let i = over_length p a old (omega arith) in
    sym (by_sets (p + length a) b (over p a old) (omega arith))
    ∙ ap (λ (l : List ℕ). sets l (p + length a) b) (sym (by_sets p a old (omega arith)))
    ∙ sets_append old p a b
    ∙ by_sets p (a ++ b) old (omega (arith, length-append a b))

-- a byte set right behind what was written
pub over_more : (p b : ℕ) (bs old : List ℕ) → p + suc (length bs) ≤ length old
    → set (over p bs old) (p + length bs) b ≡ over p (bs ++ (b ∷ [])) old
over_more p b bs old h =
    let i = over_length p bs old (omega arith) in
    by_sets (p + length bs) (b ∷ []) (over p bs old) (omega arith) ∙ over_next p bs (b ∷ []) old (omega arith)

-- a byte set right before what was written
pub over_before : (q b : ℕ) (bs old : List ℕ) → q + suc (length bs) ≤ length old → set (over (suc q) bs old) q b ≡ over q (b ∷ bs) old
over_before q b bs old h =
    let e : q + suc (length bs) ≡ suc q + length bs = omega arith in
    rw (take-suc old q 0 (omega arith), append_snoc (take q old) (get_or old q 0) (bs ++ drop (suc q + length bs) old), e)
    (set_at (take q old) (get_or old q 0) (bs ++ drop (suc q + length bs) old) b q (length-take-le q old (omega arith)))
