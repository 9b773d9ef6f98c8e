-- How far a reading looks: what is read at a place rests on the bytes through the last field that is looked at, and on none behind it.
-- `reach` is the end of that field. By induction over the form it is no earlier than the place (`reach_behind`), and a reading is the same in all
-- bytes that agree up to it (`read_shared`): each field looked at ends by then, and its bytes are the same ones. A refused field lies inside the
-- file, unless the file stops before it is whole (`halt_whole`).
use Prim.Native.Nat.{ℕ, ◌+◌, ◌-◌, ◌≤◌, ◌<◌}
use native.Mathlib.Omega.{arith}
use mathlib.Core.Path.{◌≡◌, refl, sym, ◌∙◌}
use mathlib.Core.Logic.{◌≢◌}
use mathlib.Core.Bool.{Bool, true, false}
use mathlib.Core.List.{List, ◌++◌}
use lib.ListN.{length, take, drop, length-append, length-drop}
use lib.Seq.{drop_at, take-add, take-take, length-take-le, drop-append-le, take-append-le}
use lib.Dec.{leb}
use borrow.Author.Tests.{le-leb, leb-true}
use Rattle.form.specs.Kind.{Kind, Value, width}
use Rattle.form.specs.Form.{Rule, Form, ret, field}
use Rattle.form.specs.Reader.{Reason, short, Refusal, Look, has, lacks, ◌then◌, judge, obey, if_whole}
use Rattle.form.specs.Place.{look_at, field_at, Read, done, halt, go_on, read_at}
use Rattle.form.proofs.WholeLaws.{done_or_halt}

-- the end of the last field that was looked at
abbrev pub reach : {N A : Type 0} → Read N A → ℕ
reach (done a q) = q
reach (halt r) = r.place + r.width

pub reach_behind : {N A : Type 0} (m : Form N A) (f : List ℕ) (p : ℕ) → p ≤ reach (read_at m f p)
unfolding read_at
reach_behind (ret a) f p = omega arith
reach_behind {N} {A} (field ν κ rs next) f p = by (field_at κ rs f p) (λ v. reach_behind (next v) f (p + width κ))
  where
    by : (l : Look (Value κ)) → ((v : Value κ) → p + width κ ≤ reach (read_at (next v) f (p + width κ)))
        → p ≤ reach (go_on ν p (width κ) l (λ v. read_at (next v) f (p + width κ)))
    by (has v) i = let h = i v in omega arith
    by (lacks z) i = omega arith

-- ---- a form that begins with a field of a byte at least

abbrev pub first_width : {N A : Type 0} → Form N A → ℕ
first_width (ret a) = 0
first_width (field ν κ rs next) = width κ

-- takes a byte, or is refused no earlier than behind one
pub first_grows : {N A : Type 0} (m : Form N A) (f : List ℕ) (p : ℕ) → 1 ≤ first_width m → p < reach (read_at m f p)
unfolding read_at
first_grows (ret a) f p h = absurd (omega arith)
first_grows {N} {A} (field ν κ rs next) f p h = by (field_at κ rs f p)
  where
    by : (l : Look (Value κ)) → p < reach (go_on ν p (width κ) l (λ v. read_at (next v) f (p + width κ)))
    by (has v) = omega (arith, reach_behind (next v) f (p + width κ))
    by (lacks z) = omega arith

-- ---- a refused field is whole where it is refused for another reason than want of bytes

field_whole : (κ : Kind) (rs : Value κ → List Rule) (f : List ℕ) (p : ℕ) (z : Reason) → field_at κ rs f p ≡ lacks z → z ≢ short → p + width κ ≤ length f
unfolding look_at
field_whole κ rs f p z e n = by (leb (p + width κ) (length f)) refl e
  where
    by : (b : Bool) → leb (p + width κ) (length f) ≡ b → ◌then◌ (if_whole b (judge κ (take (width κ) (drop p f)))) (λ v. obey (rs v) v) ≡ lacks z
        → p + width κ ≤ length f
    by true i e = leb-true (p + width κ) (length f) i
    by false i e = absurd (n cc)

pub halt_whole : {N A : Type 0} (m : Form N A) (f : List ℕ) (p : ℕ) (r : Refusal N) → read_at m f p ≡ halt r → r.reason ≢ short
    → r.place + r.width ≤ length f
unfolding read_at
halt_whole (ret a) f p r e n = absurd (done_or_halt e)
halt_whole {N} {A} (field ν κ rs next) f p r e n = by (field_at κ rs f p) refl e (λ v i. halt_whole (next v) f (p + width κ) r i n)
  where
    by : (l : Look (Value κ)) → field_at κ rs f p ≡ l → go_on ν p (width κ) l (λ v. read_at (next v) f (p + width κ)) ≡ halt r
        → ((v : Value κ) → read_at (next v) f (p + width κ) ≡ halt r → r.place + r.width ≤ length f) → r.place + r.width ≤ length f
    by (has v) s e i = i v e
    by (lacks z) s e i =
        let c : p ≡ r.place = cc in
        let d : width κ ≡ r.width = cc in
        let o : z ≡ r.reason = cc in
        omega (arith, field_whole κ rs f p z s (λ x. n (sym o ∙ x)))

-- ---- other bytes that are the same through n

abbrev pub Same : List ℕ → ℕ → List ℕ → List ℕ
Same f n rest = take n f ++ rest

module _ (f rest : List ℕ) (n : ℕ) (inside : n ≤ length f) where
  abbrev shared : List ℕ
  shared = Same f n rest

  pub shared_long : n ≤ length (Same f n rest)
  shared_long = omega (arith, length-append (take n f) rest, length-take-le n f inside)

  cut : (p k : ℕ) → p + k ≡ n → drop p (take n f) ≡ take k (drop p f)
  cut p k e = rw (← e, take-add p k f) (drop_at (take p f) (take k (drop p f)) p (length-take-le p f (omega arith)))

  pub shared_part : (p w : ℕ) → p + w ≤ n → take w (drop p (Same f n rest)) ≡ take w (drop p f)
  shared_part p w h =
      let l = length-take-le n f inside in
      let a : p ≤ length (take n f) = omega (arith, l) in
      let b : w ≤ length (drop p (take n f)) = omega (arith, length-drop p (take n f), l) in
      let i : w ≤ n - p = omega arith in
      rw (drop-append-le p (take n f) rest a, take-append-le w (drop p (take n f)) rest b, cut p (n - p) (omega arith)) (take-take w (n - p) (drop p f) i)

  shared_field : (κ : Kind) (rs : Value κ → List Rule) (p : ℕ) → p + width κ ≤ n → field_at κ rs shared p ≡ field_at κ rs f p
  unfolding look_at
  shared_field κ rs p h =
      let a : p + width κ ≤ length f = omega arith in
      let b : p + width κ ≤ length shared = omega (arith, shared_long) in
      rw (le-leb (p + width κ) (length shared) b, le-leb (p + width κ) (length f) a, shared_part p (width κ) h)

  pub read_shared : {N A : Type 0} (m : Form N A) (p : ℕ) → reach (read_at m f p) ≤ n → read_at m (Same f n rest) p ≡ read_at m f p
  unfolding read_at
  read_shared (ret a) p h = refl
  read_shared {N} {A} (field ν κ rs next) p h =
      rw (shared_field κ rs p (first (field_at κ rs f p) h)) (by (field_at κ rs f p) h (λ v i. read_shared (next v) (p + width κ) i))
    where
      first : (l : Look (Value κ)) → reach (go_on ν p (width κ) l (λ v. read_at (next v) f (p + width κ))) ≤ n → p + width κ ≤ n
      first (has v) h = omega (arith, reach_behind (next v) f (p + width κ))
      first (lacks z) h = h

      by : (l : Look (Value κ)) → reach (go_on ν p (width κ) l (λ v. read_at (next v) f (p + width κ))) ≤ n
          → ((v : Value κ) → reach (read_at (next v) f (p + width κ)) ≤ n → read_at (next v) shared (p + width κ) ≡ read_at (next v) f (p + width κ))
          → go_on ν p (width κ) l (λ v. read_at (next v) shared (p + width κ)) ≡ go_on ν p (width κ) l (λ v. read_at (next v) f (p + width κ))
      by (has v) h i = i v h
      by (lacks z) h i = refl
