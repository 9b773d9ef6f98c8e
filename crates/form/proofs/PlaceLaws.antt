-- The laws of the reader at a place: forms one after another are read one after another, and a whole file is read from its first byte.
-- Each goes by induction over the form, with one case distinction at a field: it has a content, or it is refused. The step that joins the two
-- readers is `look_place`: the field at place p of a file is the field with which the bytes from p on begin, since both ask whether p and the
-- width lie in the file. With that `run_place` says for every place inside the file that running on the bytes behind it is reading from it, and
-- `run_read` is the place 0.
use Prim.Native.Nat.{ℕ, ◌+◌, ◌≤◌}
use native.Mathlib.Nat.{add-zero}
use native.Mathlib.Omega.{arith}
use mathlib.Core.Path.{◌≡◌, refl, sym, ap, ◌∙◌}
use mathlib.Core.Bool.{Bool, true, false}
use mathlib.Core.List.{List}
use lib.ListN.{length, take, drop, length-drop, drop_of_length-le}
use lib.Seq.{drop-cons, drop-drop}
use lib.Dec.{leb}
use borrow.Author.Tests.{le-leb, lt-leb, leb-true, leb-false}
use Rattle.form.specs.Kind.{Kind, Value, width}
use Rattle.form.specs.Form.{Rule, Form, ret, field, ◌>>=◌}
use Rattle.form.specs.Reader.{Refusal, Answer, accepted, refused, Look, has, lacks, ◌then◌, judge, obey, settle, if_whole, look, later, onward, run}
use Rattle.form.proofs.AnswerLaws.{has_or_lacks}
use Rattle.form.specs.Place.{look_at, field_at, done, go_on, read_at, and_then, if_over, over}

-- ---- one form after another

pub read_bind : {N A B : Type 0} (m : Form N A) (k : A → Form N B) (f : List ℕ) (p : ℕ) → read_at (m >>= k) f p ≡ and_then (read_at m f p) (λ a q. read_at (k a) f q)
unfolding read_at
read_bind (ret a) k f p = refl
read_bind {N} {A} {B} (field ν κ rs next) k f p = by (field_at κ rs f p) (λ v. read_bind (next v) k f (p + width κ))
  where
    by : (l : Look (Value κ)) → ((v : Value κ) → read_at (next v >>= k) f (p + width κ) ≡ and_then (read_at (next v) f (p + width κ)) (λ a q. read_at (k a) f q))
        → go_on ν p (width κ) l (λ v. read_at (next v >>= k) f (p + width κ)) ≡ and_then (go_on ν p (width κ) l (λ v. read_at (next v) f (p + width κ))) (λ a q. read_at (k a) f q)
    by (has v) i = i v
    by (lacks z) i = refl

-- ---- the whole file

-- a refusal, given at another place
abbrev placed : {N A : Type 0} → Refusal N → ℕ → Answer N A
placed r p = refused (record { reason = r.reason; place = p; width = r.width; name = r.name })

later_zero : {N A : Type 0} (x : Answer N A) → x ≡ later 0 x
later_zero (accepted a) = refl
later_zero (refused r) = ap (placed r) (omega arith)

later_add : {N A : Type 0} (m n : ℕ) (x : Answer N A) → later m (later n x) ≡ later (m + n) x
later_add m n (accepted a) = refl
later_add m n (refused r) = ap (placed r) (omega arith)

same_test : (w p : ℕ) (f : List ℕ) → p ≤ length f → leb w (length (drop p f)) ≡ leb (p + w) (length f)
same_test w p f h = by (leb (p + w) (length f)) refl
  where
    by : (b : Bool) → leb (p + w) (length f) ≡ b → leb w (length (drop p f)) ≡ b
    by true e = let g = leb-true (p + w) (length f) e in le-leb w (length (drop p f)) (rw (length-drop p f) (omega arith))
    by false e = let g = leb-false (p + w) (length f) e in lt-leb w (length (drop p f)) (rw (length-drop p f) (omega arith))

-- a field at a place is the field with which the bytes from there on begin
pub look_place : (κ : Kind) (rs : Value κ → List Rule) (f : List ℕ) (p : ℕ) → p ≤ length f → look κ rs (drop p f) ≡ field_at κ rs f p
unfolding look_at
look_place κ rs f p h = rw (same_test (width κ) p f h) (by (leb (p + width κ) (length f)))
  where
    by : (b : Bool) → if_whole b (settle κ rs (take (width κ) (drop p f))) ≡ ◌then◌ (if_whole b (judge κ (take (width κ) (drop p f)))) (λ v. obey (rs v) v)
    by true = refl
    by false = refl

whole_inside : {X : Type 0} (n l : ℕ) (x : Look X) (v : X) → if_whole (leb n l) x ≡ has v → n ≤ l
whole_inside {X} n l x v e = by (leb n l) refl e
  where
    by : (b : Bool) → leb n l ≡ b → if_whole b x ≡ has v → n ≤ l
    by true q e = leb-true n l q
    by false q e = absurd (has_or_lacks (sym e))

-- a field that was read lies inside the file
pub look_inside : (κ : Kind) (f : List ℕ) (p : ℕ) (v : Value κ) → look_at κ f p ≡ has v → p + width κ ≤ length f
unfolding look_at
look_inside κ f p v e = whole_inside (p + width κ) (length f) _ v e

pub field_inside : (κ : Kind) (rs : Value κ → List Rule) (f : List ℕ) (p : ℕ) (v : Value κ) → field_at κ rs f p ≡ has v → p + width κ ≤ length f
field_inside κ rs f p v e = by (look_at κ f p) refl e
  where
    by : (l : Look (Value κ)) → look_at κ f p ≡ l → ◌then◌ l (λ v. obey (rs v) v) ≡ has v → p + width κ ≤ length f
    by (has u) q e = look_inside κ f p u q
    by (lacks z) q e = absurd (has_or_lacks (sym e))

-- the answer to the bytes from a place on is what reading there gives
pub run_place : {N A : Type 0} (m : Form N A) (f : List ℕ) (p : ℕ) → p ≤ length f → later p (run m (drop p f)) ≡ over (read_at m f p) (length f)
unfolding run read_at
run_place {N} {A} (ret a) f p h = by (leb (length f) p) refl
  where
    by : (b : Bool) → leb (length f) p ≡ b → later {N = N} p (run (ret a) (drop p f)) ≡ if_over b a p
    by true e = rw (drop_of_length-le f (leb-true (length f) p e))
    by false e = rw (drop-cons f p 0 (leb-false (length f) p e), add-zero p)
run_place {N} {A} (field ν κ rs next) f p h =
    rw (look_place κ rs f p h) (by (field_at κ rs f p) refl (λ v i. run_place (next v) f (p + width κ) i))
  where
    w : ℕ
    w = width κ

    by : (l : Look (Value κ)) → field_at κ rs f p ≡ l
        → ((v : Value κ) → p + w ≤ length f → later (p + w) (run (next v) (drop (p + w) f)) ≡ over (read_at (next v) f (p + w)) (length f))
        → later p (onward ν w l (λ v. run (next v) (drop w (drop p f)))) ≡ over (go_on ν p w l (λ v. read_at (next v) f (p + w))) (length f)
    by (has v) e i = rw (drop-drop w p f, later_add p w (run (next v) (drop (p + w) f))) (i v (field_inside κ rs f p v e))
    by (lacks z) e i = rw (add-zero p)

-- the whole file, from its first byte
pub run_read : {N A : Type 0} (m : Form N A) (f : List ℕ) → run m f ≡ over (read_at m f 0) (length f)
run_read m f = later_zero (run m f) ∙ run_place m f 0 (omega arith)

-- ---- the place after

-- a form that was read lies inside the file
pub read_inside : {N A : Type 0} (m : Form N A) (f : List ℕ) (p q : ℕ) (a : A) → p ≤ length f → read_at m f p ≡ done a q → (p ≤ q) × (q ≤ length f)
unfolding read_at
read_inside (ret b) f p q a h e = let g : p ≡ q = cc in (omega arith, omega arith)
read_inside {N} {A} (field ν κ rs next) f p q a h e = by (field_at κ rs f p) refl e (λ v g i. read_inside (next v) f (p + width κ) q a g i)
  where
    by : (l : Look (Value κ)) → field_at κ rs f p ≡ l → go_on ν p (width κ) l (λ v. read_at (next v) f (p + width κ)) ≡ done a q
        → ((v : Value κ) → p + width κ ≤ length f → read_at (next v) f (p + width κ) ≡ done a q → (p + width κ ≤ q) × (q ≤ length f)) → (p ≤ q) × (q ≤ length f)
    by (has v) s e i = let r = i v (field_inside κ rs f p v s) e in (omega arith, r.1)
    by (lacks z) s e i = absurd (let c : ◌≡◌ {A = ℕ} 0 1 = cc in omega arith)
