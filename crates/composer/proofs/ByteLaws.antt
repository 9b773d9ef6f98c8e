-- A line byte by byte: its tabs part its fields, it begins with a letter and a tab, a field may end in a blank; and the rest of a line of a
-- listing, where the fields so far and those from there on make up all fields.
-- The loop over the rest of a line counts its fields byte by byte, and keeps this sum: the fields counted, the last of them just begun, and the
-- fields of what stands from the place looked at on are all fields and one more (`Resting`). A tab adds a field to the first and takes one off
-- the second, any other byte changes neither (`rest_tab`, `rest_on_lem`), and at the end one field is left of the second. The laws of the first
-- two bytes and of the last are by looking at them.
use Rattle.std.specs.List.{count_by}
use Rattle.std.proofs.lemmas.List.Recursion.{is_count_by}
use Prim.Native.Nat.{ℕ, suc, ◌+◌, ◌-◌, ◌≤◌, ◌<◌, zero}
use native.Mathlib.Omega.{arith}
use native.Mathlib.Decide.{dec_lt}
use mathlib.Core.Path.{◌≡◌, refl, ap, ◌∙◌}
use mathlib.Core.Bool.{Bool, true, false, ◌&&◌, and-true, cond}
use mathlib.Core.List.{List, [], ◌∷◌}
use lib.ListN.{length, drop, get_or, take, drop_of_length-le}
use lib.Dec.{eqb}
use lib.Seq.{drop-cons, get_or-take, get_or-drop, length-take-le}
use borrow.Author.Tests.{eqb-true, eqb-false, eq-eqb, ne_eqb}
use Rattle.fields.proofs.LeafLaws.{eqb_turn}
use Rattle.listing.specs.Lines.{tab, split, ends_in_blank, line_end, onto}
use Rattle.layout.specs.Lines as line
use Rattle.layout.specs.Cells.{letter_of}
use Rattle.line_reader.specs.Reaching.{reach}
use Rattle.line_reader.proofs.ReachLaws.{reach_le, reach_here, reach_on, reach_end}
use Rattle.composer.proofs.WalkLaws.{begins, at_begun}
use Rattle.listing.proofs.LineLaws.{Some, some, split_some}

-- ---- how many fields

onto_length : (b : ℕ) (r : List (List ℕ)) → Some r → length (onto b r) ≡ length r
onto_length b r (some t ts) = refl

-- each tab has a field behind it
pub fields_by_tabs : (z : ℕ) (l : List ℕ) → length (split z l) ≡ 1 + count_by (λ b. eqb b z) l
unfolding split
fields_by_tabs z l = from_one (split_some z l) (is_count_by (λ m. length (split z m) - 1) (λ b. eqb b z) refl step l)
  where
    from_one : {r : List (List ℕ)} {n : ℕ} → Some r → length r - 1 ≡ n → length r ≡ 1 + n
    from_one (some t ts) e = omega arith

    step : (b : ℕ) (bs : List ℕ) → length (split z (b ∷ bs)) - 1 ≡ cond (eqb b z) (1 + (length (split z bs) - 1)) (length (split z bs) - 1)
    step b bs = by (eqb b z) (split z bs) (split_some z bs)
      where
        by : (e : Bool) (r : List (List ℕ)) → Some r → length (cond e ([] ∷ r) (onto b r)) - 1 ≡ cond e (1 + (length r - 1)) (length r - 1)
        by true r (some t ts) = omega arith
        by false r h = ap (λ n. n - 1) (onto_length b r h)

-- ---- the last byte

pub blank_none : (t : List ℕ) → length t ≡ 0 → false ≡ ends_in_blank t
blank_none [] e = refl
blank_none (b ∷ bs) e = absurd (omega arith)

pub blank_last : (t : List ℕ) → 0 < length t → eqb (get_or t (length t - 1) 0) 0x20 ≡ ends_in_blank t
blank_last [] h = absurd (omega arith)
blank_last (b ∷ []) h = refl
blank_last (b ∷ c ∷ cs) h =
    let k : suc (suc (length cs)) - 1 ≡ suc (suc (length cs) - 1) = omega arith in
    rw k (blank_last (c ∷ cs) (omega arith))

-- ---- the first two bytes

-- a test that cannot hold is false
pub refuted : (b : Bool) → (b ≡ true → ⊥) → false ≡ b
refuted true h = absurd (h refl)
refuted false h = refl

pub begins_short : (head : Bool) (x : List ℕ) → length x < line.first → false ≡ begins head x
begins_short head x h = refuted (begins head x) (λ e. let i = (at_begun head x e).inside in omega arith)

pub begins_by : (head : Bool) (b : ℕ) (x : List ℕ) → letter_of head ≡ b ∷ [] → line.first ≤ length x
    → eqb (get_or x 0 0) b && eqb (get_or x 1 0) tab ≡ begins head x
begins_by head b [] e h = absurd (omega arith)
begins_by head b (y ∷ []) e h = absurd (omega arith)
begins_by head b (y ∷ z ∷ zs) e h = rw (e, eqb_turn y b, eqb_turn z tab, and-true (eqb tab z))

-- ---- z behind m bytes that it is not among

pub reach_behind : (z : ℕ) (l : List ℕ) (p m : ℕ) → m ≤ reach z (drop p l) → reach z (drop p l) ≡ m + reach z (drop (p + m) l)
reach_behind z l p zero h = let e : p + 0 ≡ p = omega arith in rw e (omega arith)
reach_behind z l p (suc m) h = by (dec_lt (p + m) (length l)) (eqb (get_or l (p + m) 0) z) refl (reach_behind z l p m (omega arith))
  where
    by : Dec (p + m < length l) → (b : Bool) → eqb (get_or l (p + m) 0) z ≡ b → reach z (drop p l) ≡ m + reach z (drop (p + m) l)
        → reach z (drop p l) ≡ suc m + reach z (drop (p + suc m) l)
    by (no g) b e k = absurd (omega (arith, reach_end z l (p + m) (omega arith)))
    by (yes g) true e k = absurd (omega (arith, reach_here z l (p + m) g (eqb-true (get_or l (p + m) 0) z e)))
    by (yes g) false e k =
        let n : p + suc m ≡ suc (p + m) = omega arith in
        rw n (omega (arith, reach_on z l (p + m) g (eqb-false (get_or l (p + m) 0) z e)))

-- ---- field after field

-- the line from p on
abbrev pub rest_from : List ℕ → ℕ → List ℕ
rest_from l p = take (reach line_end (drop p l)) (drop p l)

-- so many fields of the line from p on begin before place i or there
pub record Resting (l : List ℕ) (p i fields : ℕ) : Type 0 where
  pub from : p ≤ i
  pub few : fields ≤ i + 1
  pub ahead : p + reach line_end (drop p l) ≡ i + reach line_end (drop i l)
  pub all : length (split tab (rest_from l p)) + 1 ≡ fields + length (split tab (drop (i - p) (rest_from l p)))

pub rest_start : (l : List ℕ) (p : ℕ) → Resting l p p 1
rest_start l p =
    let e : p - p ≡ 0 = omega arith in
    record { from = omega arith; few = omega arith; ahead = refl; all = rw e (omega arith) }

module _ {l : List ℕ} {p i fields : ℕ} (w : Resting l p i fields) where
  pub rest_ends : i < length l → get_or l i 0 ≡ line_end → (i ≡ p + reach line_end (drop p l)) × (fields ≡ length (split tab (rest_from l p)))
  unfolding split
  rest_ends h e =
      let z = reach_here line_end l i h e in
      let long = length-take-le (reach line_end (drop p l)) (drop p l) (reach_le line_end (drop p l)) in
      let none : length (rest_from l p) ≤ i - p = omega (arith, w.ahead) in
      let one : length (split tab (drop (i - p) (rest_from l p))) ≡ 1 = rw (drop_of_length-le (rest_from l p) none) in
      (omega (arith, w.ahead), omega (arith, w.all))

  module _ (h : i < length l) (more : get_or l i 0 ≡ line_end → ⊥) where
    on : reach line_end (drop i l) ≡ suc (reach line_end (drop (suc i) l))
    on = reach_on line_end l i h more

    abbrev j : ℕ
    j = i - p

    within : j < reach line_end (drop p l)
    within = omega (arith, on, w.ahead, w.from)

    byte : get_or (rest_from l p) j 0 ≡ get_or l i 0
    byte =
        let e : p + j ≡ i = omega (arith, w.from) in
        get_or-take (reach line_end (drop p l)) (drop p l) j 0 within ∙ get_or-drop p l j 0 ∙ ap (λ (n : ℕ). get_or l n 0) e

    apart : drop j (rest_from l p) ≡ get_or l i 0 ∷ drop (suc j) (rest_from l p)
    apart =
        let long = length-take-le (reach line_end (drop p l)) (drop p l) (reach_le line_end (drop p l)) in
        drop-cons (rest_from l p) j 0 (omega (arith, within)) ∙ ap (λ (b : ℕ). b ∷ drop (suc j) (rest_from l p)) byte

    further : (m : ℕ) → m ≤ fields + 1 → fields + length (split tab (drop j (rest_from l p))) ≡ m + length (split tab (drop (suc j) (rest_from l p)))
        → Resting l p (i + 1) m
    further m few e =
        let n : i + 1 - p ≡ suc j = omega (arith, w.from) in
        let k : i + 1 ≡ suc i = omega arith in
        record {
          from = omega (arith, w.from);
          few = omega (arith, w.few);
          ahead = rw k (omega (arith, on, w.ahead));
          all = rw n (omega (arith, e, w.all));
        }

    pub rest_tab : get_or l i 0 ≡ tab → Resting l p (i + 1) (fields + 1)
    unfolding split
    rest_tab e =
        let k : length (split tab (drop j (rest_from l p))) ≡ suc (length (split tab (drop (suc j) (rest_from l p))))
        = rw (apart, eq-eqb (get_or l i 0) tab e) in
        further (fields + 1) (omega arith) (omega (arith, k))

    pub rest_on_lem : (get_or l i 0 ≡ tab → ⊥) → Resting l p (i + 1) fields
    unfolding split
    rest_on_lem n =
        let r = split tab (drop (suc j) (rest_from l p)) in
        let k : length (split tab (drop j (rest_from l p))) ≡ length r
        = rw (apart, ne_eqb (get_or l i 0) tab n) (onto_length (get_or l i 0) r (split_some tab (drop (suc j) (rest_from l p)))) in
        further fields (omega arith) (omega (arith, k))
