-- A form that was read was filled in, each value fits its field and keeps the rules, and it stands there written out; one that stands so is
-- read.
-- Of one field this is the law of its kind, `judge_has`, behind the question whether the field is whole. Of a form it goes by induction, with
-- the place moving on by the field's width: `read_written` puts the spelled field ahead of the bytes of those behind it, and `written_read` cuts
-- the file behind the spelled field, which is as wide as the field (`spell_length`).
use Prim.Native.Nat.{ℕ, ◌+◌, ◌^◌, ◌≤◌, ◌<◌}
use native.Mathlib.Omega.{arith}
use mathlib.Core.Path.{◌≡◌, refl, sym, ap, ◌∙◌}
use mathlib.Core.Bool.{Bool, true, false}
use mathlib.Core.List.{List, ◌++◌, append_assoc}
use mathlib.Core.Option.{some}
use lib.ListN.{length, take, drop, length-append, length-drop, take-append-drop}
use lib.Seq.{length-take-le, take_at, drop_at, drop-drop}
use lib.Dec.{T, leb, ltb, le→leb, ltb→lt}
use Rattle.form.specs.Kind.{Kind, digits, maybe, Value, width, fits, spell}
use Rattle.form.specs.Form.{Rule, Holds, Form, ret, field, Filled, value, bytes}
use Rattle.form.specs.Reader.{Look, has, lacks, ◌then◌, judge, obey, if_whole}
use Rattle.form.specs.Place.{look_at, field_at, done, go_on, read_at}
use Rattle.form.proofs.AnswerLaws.{has_or_lacks}
use Rattle.form.proofs.BoolLaws.{is_true, and_both}
use Rattle.form.proofs.KindLaws.{spell_length, judge_has}
use Rattle.form.proofs.ReaderLaws.{obey_has, settle_content}
use Rattle.form.proofs.PlaceLaws.{look_place, look_inside}

-- ---- a field

-- a field that was read is whole
look_length : (κ : Kind) (f : List ℕ) (p : ℕ) (v : Value κ) → look_at κ f p ≡ has v → length (take (width κ) (drop p f)) ≡ width κ
look_length κ f p v e = length-take-le (width κ) (drop p f) (simp length-drop (omega (arith, look_inside κ f p v e)))

-- the value of a field that was read fits the field
pub look_fits : (κ : Kind) (f : List ℕ) (p : ℕ) (v : Value κ) → look_at κ f p ≡ has v → T (fits κ v)
unfolding look_at
look_fits κ f p v e = by (leb (p + width κ) (length f)) e
  where
    by : (b : Bool) → if_whole b (judge κ (take (width κ) (drop p f))) ≡ has v → T (fits κ v)
    by true i = (judge_has κ (take (width κ) (drop p f)) v (look_length κ f p v e) i).0
    by false i = absurd (has_or_lacks (sym i))

pub look_digits : (w : ℕ) (f : List ℕ) (p v : ℕ) → look_at (digits w) f p ≡ has v → v < 10 ^ w
look_digits w f p v e = ltb→lt v (10 ^ w) (look_fits (digits w) f p v e)

pub look_maybe : (w : ℕ) (f : List ℕ) (p v : ℕ) → look_at (maybe w) f p ≡ has (some v) → v < 10 ^ w
look_maybe w f p v e = ltb→lt v (10 ^ w) (and_both (ltb 0 w) (ltb v (10 ^ w)) (look_fits (maybe w) f p (some v) e)).1

-- a field that was read has a content
pub field_content : (κ : Kind) (rs : Value κ → List Rule) (f : List ℕ) (p : ℕ) (v : Value κ) → field_at κ rs f p ≡ has v → T (fits κ v) × Holds (rs v)
field_content κ rs f p v e = by (look_at κ f p) refl e
  where
    by : (l : Look (Value κ)) → look_at κ f p ≡ l → ◌then◌ l (λ u. obey (rs u) u) ≡ has v → T (fits κ v) × Holds (rs v)
    by (has u) i e = let h = obey_has (rs u) u v e in rw (← h.1) (look_fits κ f p u i, h.0)
    by (lacks z) i e = absurd (has_or_lacks (sym e))

-- a field that was read holds its value, spelled
look_spelled : (κ : Kind) (f : List ℕ) (p : ℕ) (v : Value κ) → look_at κ f p ≡ has v → spell κ v ≡ take (width κ) (drop p f)
unfolding look_at
look_spelled κ f p v e = by (leb (p + width κ) (length f)) e
  where
    by : (b : Bool) → if_whole b (judge κ (take (width κ) (drop p f))) ≡ has v → spell κ v ≡ take (width κ) (drop p f)
    by true i = (judge_has κ (take (width κ) (drop p f)) v (look_length κ f p v e) i).1
    by false i = absurd (has_or_lacks (sym i))

pub field_spelled : (κ : Kind) (rs : Value κ → List Rule) (f : List ℕ) (p : ℕ) (v : Value κ) → field_at κ rs f p ≡ has v
    → spell κ v ≡ take (width κ) (drop p f)
field_spelled κ rs f p v e = by (look_at κ f p) refl e
  where
    by : (l : Look (Value κ)) → look_at κ f p ≡ l → ◌then◌ l (λ u. obey (rs u) u) ≡ has v → spell κ v ≡ take (width κ) (drop p f)
    by (has u) i e = let h = obey_has (rs u) u v e in rw (← h.1) (look_spelled κ f p u i)
    by (lacks z) i e = absurd (has_or_lacks (sym e))

-- ---- a form

-- filled in so that it says a, it stands at p, and q is behind it
abbrev pub Written : {N A : Type 0} → Form N A → List ℕ → ℕ → ℕ → A → Type 0
Written m f p q a = (r : Filled m) × (value m r ≡ a) × (drop p f ≡ bytes m r ++ drop q f)

pub read_written : {N A : Type 0} (m : Form N A) (f : List ℕ) (p q : ℕ) (a : A) → read_at m f p ≡ done a q → Written m f p q a
unfolding read_at
read_written (ret b) f p q a e = let h : p ≡ q = cc in (tt, cc, ap (λ (n : ℕ). drop n f) h)
read_written (field ν κ rs next) f p q a e = by (field_at κ rs f p) refl e (λ v i. read_written (next v) f (p + width κ) q a i)
  where
    by : (l : Look (Value κ)) → field_at κ rs f p ≡ l → go_on ν p (width κ) l (λ v. read_at (next v) f (p + width κ)) ≡ done a q
        → ((v : Value κ) → read_at (next v) f (p + width κ) ≡ done a q → Written (next v) f (p + width κ) q a) → Written (field ν κ rs next) f p q a
    by (has v) s e i =
        let c = field_content κ rs f p v s in
        let r = i v e in (
          ((v, c.0, c.1), r.0),
          r.1,
          sym (take-append-drop (width κ) (drop p f))
              ∙ rw (← field_spelled κ rs f p v s, drop-drop (width κ) p f, r.2) (sym (append_assoc (spell κ v) (bytes (next v) r.0) (drop q f))),
        )
    by (lacks z) s e i = absurd (let c : ◌≡◌ {A = ℕ} 0 1 = cc in omega arith)

pub read_filled : {N A : Type 0} (m : Form N A) (f : List ℕ) (p q : ℕ) (a : A) → read_at m f p ≡ done a q → (r : Filled m) × (value m r ≡ a)
read_filled m f p q a e = let r = read_written m f p q a e in (r.0, r.1)

-- a filled form that stands at p written out, with q behind it, is read there
pub written_read : {N A : Type 0} (m : Form N A) (r : Filled m) (f : List ℕ) (p q : ℕ) → p ≤ length f → q ≤ length f
    → drop p f ≡ bytes m r ++ drop q f → read_at m f p ≡ done (value m r) q
unfolding read_at
written_read (ret a) r f p q h g e = let l = simp length-drop at (ap length e) in ap (λ (n : ℕ). done a n) (omega arith)
written_read (field ν κ rs next) r f p q h g e =
    let v = r.0.0 in
    let rest = bytes (next v) r.1 ++ drop q f in
    let stands : drop p f ≡ spell κ v ++ rest = e ∙ append_assoc (spell κ v) (bytes (next v) r.1) (drop q f) in
    let l = simp (length-drop, length-append) at (ap length stands) in
    let w = spell_length κ v r.0.1 in
    let there : field_at κ rs f p ≡ has v
    = sym (look_place κ rs f p h) ∙ rw (stands, is_true (leb (width κ) (length (spell κ v ++ rest))) (le→leb (width κ) (length (spell κ v ++ rest)) (simp length-append (omega arith))), take_at (spell κ v) rest (width κ) w) (settle_content κ rs r.0) in
    rw there (written_read (next v) r.1 f (p + width κ) q (omega arith) g (sym (drop-drop (width κ) p f) ∙ rw (stands, drop_at (spell κ v) rest (width κ) w)))
