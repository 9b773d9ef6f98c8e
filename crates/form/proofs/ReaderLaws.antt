-- The laws of the reader, once for every form: it accepts exactly the filled forms, a refusal rests on the bytes through its field, and the
-- bytes ahead of that field begin a filled form.
-- All go by induction over the form, and `meet` gives the three cases at a field: too few bytes, a whole field that is refused, or a content,
-- behind which the induction goes on with the place moved by the field's width (`Behind`). The bytes ahead of a refused field are the contents
-- read so far, and they are filled up with any content of each field still to come, which a viable form has (`ahead`). A refusal other than for
-- want of bytes is given again whatever follows its field (`local`), so a filled form that began with those bytes would be both accepted and
-- refused (`through`).
use Prim.Native.Nat.{ℕ, ◌+◌, ◌≤◌}
use native.Mathlib.Nat.{zero-add}
use native.Mathlib.Omega.{arith}
use mathlib.Core.Path.{◌≡◌, refl, sym, ap, ◌∙◌}
use mathlib.Core.Logic.{◌≢◌}
use mathlib.Core.Bool.{Bool, true, false}
use mathlib.Core.List.{List, [], ◌∷◌, ◌++◌, append_assoc}
use mathlib.Core.Option.{some}
use lib.ListN.{length, take, drop, length-append, length-drop, take-append-drop}
use lib.Seq.{take_at, drop_at, length-take-le, take-add}
use lib.Dec.{T, leb, leb→le, le→leb}
use Rattle.form.specs.Kind.{Kind, Value, width, fits, spell}
use Rattle.form.specs.Form.{Rule, rule, Holds, Form, ret, field, Content, Filled, value, bytes, Begins, Viable}
use Rattle.form.specs.Reader.{Reason, short, Refusal, Answer, accepted, refused, Look, has, lacks, ◌then◌, judge, obey, settle, later, onward, run}
use Rattle.form.proofs.BoolLaws.{is_true, T_of}
use Rattle.form.proofs.AnswerLaws.{has_or_lacks, accepted_or_refused, same_refusal}
use Rattle.form.proofs.KindLaws.{spell_length, judge_spell, judge_has}

-- ---- a whole field

obey_holds : {X : Type 0} (rs : List Rule) (v : X) → Holds rs → obey rs v ≡ has v
obey_holds [] v h = refl
obey_holds (rule n true ∷ rs) v h = obey_holds rs v h.1
obey_holds (rule n false ∷ rs) v h = absurd h.0

pub obey_has : {X : Type 0} (rs : List Rule) (u v : X) → obey rs u ≡ has v → Holds rs × (u ≡ v)
obey_has [] u v e = (tt, cc)
obey_has (rule n true ∷ rs) u v e = let h = obey_has rs u v e in ((tt, h.0), h.1)
obey_has (rule n false ∷ rs) u v e = absurd (has_or_lacks (sym e))

module _ (κ : Kind) (rs : Value κ → List Rule) where
  pub settle_content : (c : Content κ rs) → settle κ rs (spell κ c.0) ≡ has c.0
  settle_content c = rw (judge_spell κ c.0 c.1) (obey_holds (rs c.0) c.0 c.2)

  -- what is read of a whole field is a content, and its spelling is the bytes of the field
  settle_has : (f : List ℕ) (v : Value κ) → length f ≡ width κ → settle κ rs f ≡ has v → T (fits κ v) × Holds (rs v) × (spell κ v ≡ f)
  settle_has f v l e = by (judge κ f) refl e
    where
      by : (j : Look (Value κ)) → judge κ f ≡ j → ◌then◌ j (λ u. obey (rs u) u) ≡ has v → T (fits κ v) × Holds (rs v) × (spell κ v ≡ f)
      by (has u) p e =
          let h = obey_has (rs u) u v e in
          let g = judge_has κ f v l (p ∙ ap {B = Look (Value κ)} has h.1) in
          (g.0, rw h.1 at h.0, g.1)
      by (lacks z) p e = absurd (has_or_lacks (sym e))

-- how the reader goes on from a field that is there
step : {N A : Type 0} (ν : N) (κ : Kind) (rs : Value κ → List Rule) (next : Value κ → Form N A) (f g : List ℕ) → length f ≡ width κ
    → run (field ν κ rs next) (f ++ g) ≡ onward ν (width κ) (settle κ rs f) (λ v. run (next v) g)
unfolding run
step ν κ rs next f g l =
    rw (
      is_true (leb (width κ) (length (f ++ g))) (le→leb (width κ) (length (f ++ g)) (omega (arith, length-append f g))),
      take_at f g (width κ) l,
      drop_at f g (width κ) l,
    )

-- ---- accepted exactly

-- every filled form is accepted, and what it says is read
pub complete : {N A : Type 0} (m : Form N A) (r : Filled m) → run m (bytes m r) ≡ accepted (value m r)
unfolding run
complete (ret a) r = refl
complete (field ν κ rs next) r =
    let v = r.0.0 in
    step ν κ rs next (spell κ v) (bytes (next v) r.1) (spell_length κ v r.0.1) ∙ rw (settle_content κ rs r.0, complete (next v) r.1)

-- what can be met at a field: too few bytes, a whole field that is refused, a content
pub data Met {N A : Type 0} (ν : N) (κ : Kind) (rs : Value κ → List Rule) (next : Value κ → Form N A) (f : List ℕ) : Type 0 where
  cut : run (field ν κ rs next) f ≡ refused (record { reason = short; place = 0; width = width κ; name = some ν }) → Met ν κ rs next f
  bad : (z : Reason) → width κ ≤ length f → settle κ rs (take (width κ) f) ≡ lacks z
      → run (field ν κ rs next) f ≡ refused (record { reason = z; place = 0; width = width κ; name = some ν }) → Met ν κ rs next f
  good : (v : Value κ) → width κ ≤ length f → settle κ rs (take (width κ) f) ≡ has v
      → run (field ν κ rs next) f ≡ later (width κ) (run (next v) (drop (width κ) f)) → Met ν κ rs next f

pub meet : {N A : Type 0} (ν : N) (κ : Kind) (rs : Value κ → List Rule) (next : Value κ → Form N A) (f : List ℕ) → Met ν κ rs next f
unfolding run
meet ν κ rs next f = by (leb w (length f)) (settle κ rs (take w f)) refl refl
  where
    w : ℕ
    w = width κ

    by : (b : Bool) (l : Look (Value κ)) → leb w (length f) ≡ b → settle κ rs (take w f) ≡ l → Met ν κ rs next f
    by false l p q = cut (rw p)
    by true (has v) p q = good v (leb→le w (length f) (T_of p)) q (rw (p, q))
    by true (lacks z) p q = bad z (leb→le w (length f) (T_of p)) q (rw (p, q))

later_accepted : {N A : Type 0} (w : ℕ) (x : Answer N A) (a : A) → later w x ≡ accepted a → x ≡ accepted a
later_accepted w (accepted b) a e = e
later_accepted w (refused r) a e = absurd (accepted_or_refused (sym e))

-- what is accepted is a filled form
pub sound : {N A : Type 0} (m : Form N A) (f : List ℕ) (a : A) → run m f ≡ accepted a → (r : Filled m) × (value m r ≡ a) × (bytes m r ≡ f)
unfolding run
sound (ret b) [] a e = (tt, cc, refl)
sound (ret b) (x ∷ xs) a e = absurd (accepted_or_refused (sym e))
sound (field ν κ rs next) f a e =
    elim (meet ν κ rs next f) [
      | cut p ↦ absurd (accepted_or_refused (sym e ∙ p))
      | bad z l j p ↦ absurd (accepted_or_refused (sym e ∙ p))
      | good v l j p ↦
          let g = settle_has κ rs (take (width κ) f) v (length-take-le (width κ) f l) j in
          let i = sound (next v) (drop (width κ) f) a (later_accepted (width κ) (run (next v) (drop (width κ) f)) a (sym p ∙ e)) in
          (((v, g.0, g.1), i.0), i.1, rw (g.2, i.2) (take-append-drop (width κ) f))
    ]

-- two filled forms with the same bytes say the same
pub one_reading : {N A : Type 0} (m : Form N A) (r s : Filled m) → bytes m r ≡ bytes m s → value m r ≡ value m s
one_reading m r s e = let c = complete m r in let d = complete m s in let h = ap (run m) e in cc

-- ---- the place of a refusal

-- a refusal after w bytes is a refusal of what follows them
pub record Behind {N A : Type 0} (w : ℕ) (x : Answer N A) (r : Refusal N) : Type 0 where
  pub there : Refusal N
  pub given : x ≡ refused there
  pub reason : r.reason ≡ there.reason
  pub place : r.place ≡ w + there.place
  pub width : r.width ≡ there.width

pub behind : {N A : Type 0} (w : ℕ) (x : Answer N A) (r : Refusal N) → later w x ≡ refused r → Behind w x r
behind w (accepted b) r e = absurd (accepted_or_refused e)
behind {N} w (refused q) r e =
    let h = same_refusal (record { reason = q.reason; place = w + q.place; width = q.width; name = q.name }) r e in
    record {
      there = q;
      given = refl;
      reason = ap (λ (x : Refusal N). x.reason) (sym h);
      place = ap (λ (x : Refusal N). x.place) (sym h);
      width = ap (λ (x : Refusal N). x.width) (sym h);
    }

-- the place of a refusal lies in the file, or at its end
pub place_inside : {N A : Type 0} (m : Form N A) (f : List ℕ) (r : Refusal N) → run m f ≡ refused r → r.place ≤ length f
unfolding run
place_inside (ret b) [] r e = absurd (accepted_or_refused e)
place_inside {N} (ret b) (x ∷ xs) r e = omega (arith, ap (λ (y : Refusal N). y.place) (sym (same_refusal _ r e)))
place_inside {N} (field ν κ rs next) f r e =
    elim (meet ν κ rs next f) [
      | cut c ↦ omega (arith, ap (λ (y : Refusal N). y.place) (sym (same_refusal _ r (sym c ∙ e))))
      | bad z l j c ↦ omega (arith, ap (λ (y : Refusal N). y.place) (sym (same_refusal _ r (sym c ∙ e))))
      | good v l j c ↦
          let k = behind (width κ) (run (next v) (drop (width κ) f)) r (sym c ∙ e) in
          let i = place_inside (next v) (drop (width κ) f) k.there k.given in
          omega (arith, k.place, length-drop (width κ) f)
    ]

-- ---- the bytes ahead of the refused field

-- a viable form can be filled in
pub some_filling : {N A : Type 0} (m : Form N A) → Viable m → Filled m
some_filling (ret a) q = tt
some_filling (field ν κ rs next) q = (q.0, some_filling (next q.0.0) (q.1 q.0))

glue : (w q p : ℕ) (f s t rest : List ℕ) → s ≡ take w f → t ≡ take q (drop w f) ++ rest → p ≡ w + q → s ++ t ≡ take p f ++ rest
glue w q p f s t rest a b c = rw (a, b, c, take-add w q f, append_assoc)

begins_with_nothing : {N A : Type 0} (m : Form N A) → Viable m → (f : List ℕ) (p : ℕ) → p ≡ 0 → Begins m (take p f)
begins_with_nothing m q f p e = let r = some_filling m q in rw e (r, bytes m r, refl)

-- the bytes ahead of the refused field begin a filled form
pub ahead : {N A : Type 0} (m : Form N A) → Viable m → (f : List ℕ) (r : Refusal N) → run m f ≡ refused r → Begins m (take r.place f)
unfolding run
ahead (ret b) q [] r e = absurd (accepted_or_refused e)
ahead {N} (ret b) q (x ∷ xs) r e = begins_with_nothing {N = N} (ret b) q (x ∷ xs) r.place (ap (λ (y : Refusal N). y.place) (sym (same_refusal _ r e)))
ahead {N} (field ν κ rs next) q f r e =
    elim (meet ν κ rs next f) [
      | cut c ↦ begins_with_nothing (field ν κ rs next) q f r.place (ap (λ (y : Refusal N). y.place) (sym (same_refusal _ r (sym c ∙ e))))
      | bad z l j c ↦ begins_with_nothing (field ν κ rs next) q f r.place (ap (λ (y : Refusal N). y.place) (sym (same_refusal _ r (sym c ∙ e))))
      | good v l j c ↦
          let g = settle_has κ rs (take (width κ) f) v (length-take-le (width κ) f l) j in
          let k = behind (width κ) (run (next v) (drop (width κ) f)) r (sym c ∙ e) in
          let i = ahead (next v) (q.1 (v, g.0, g.1)) (drop (width κ) f) k.there k.given in
          (((v, g.0, g.1), i.0), i.1, glue (width κ) k.there.place r.place f (spell κ v) (bytes (next v) i.0) i.1 g.2 i.2 k.place)
    ]

-- ---- the bytes through the refused field

module _ {N A : Type 0} (ν : N) (κ : Kind) (rs : Value κ → List Rule) (next : Value κ → Form N A) (f rest : List ℕ) (l : width κ ≤ length f) where
  -- the refused field is the first: its refusal is the same whatever follows
  through_it : (z : Reason) (n : ℕ) → settle κ rs (take (width κ) f) ≡ lacks z → n ≡ width κ
      → run (field ν κ rs next) (take n f ++ rest) ≡ refused (record { reason = z; place = 0; width = width κ; name = some ν })
  through_it z n j e = rw e (step ν κ rs next (take (width κ) f) rest (length-take-le (width κ) f l) ∙ rw j)

  -- the refused field lies behind the first: the answer to the rest, moved on by the first width
  through_later : (v : Value κ) (n q : ℕ) (x : Answer N A) → settle κ rs (take (width κ) f) ≡ has v → run (next v) (take q (drop (width κ) f) ++ rest) ≡ x
      → n ≡ width κ + q → run (field ν κ rs next) (take n f ++ rest) ≡ later (width κ) x
  through_later v n q x j i e =
      rw (e, take-add (width κ) q f, append_assoc)
      (step ν κ rs next (take (width κ) f) (take q (drop (width κ) f) ++ rest) (length-take-le (width κ) f l) ∙ rw (j, i))

-- a refusal other than for want of bytes rests on the bytes through its field
pub local : {N A : Type 0} (m : Form N A) (f : List ℕ) (r : Refusal N) → r.reason ≢ short → run m f ≡ refused r
    → (rest : List ℕ) → run m (take (r.place + r.width) f ++ rest) ≡ refused r
unfolding run
local (ret b) [] r w e rest = absurd (accepted_or_refused e)
local (ret b) (x ∷ xs) r w e rest = let h = same_refusal _ r e in rw (← h)
local {N} (field ν κ rs next) f r w e rest =
    elim (meet ν κ rs next f) [
      | cut c ↦ absurd (w (ap (λ (y : Refusal N). y.reason) (sym (same_refusal _ r (sym c ∙ e)))))
      | bad z l j c ↦
          let h = same_refusal _ r (sym c ∙ e) in
          rw (← h) (through_it ν κ rs next f rest l z (0 + width κ) j (zero-add (width κ)))
      | good v l j c ↦
          let k = behind (width κ) (run (next v) (drop (width κ) f)) r (sym c ∙ e) in
          let q = k.there in
          let i = local (next v) (drop (width κ) f) q (λ s. w (k.reason ∙ s)) k.given rest in
          let o : r.place + r.width ≡ width κ + (q.place + q.width) = omega (arith, k.place, k.width) in
          through_later ν κ rs next f rest l v (r.place + r.width) (q.place + q.width) (refused q) j i o ∙ ap (later (width κ)) (sym k.given) ∙ sym c ∙ e
    ]

-- the bytes through the refused field begin no filled form
pub through : {N A : Type 0} (m : Form N A) (f : List ℕ) (r : Refusal N) → r.reason ≢ short → run m f ≡ refused r
    → ¬ Begins m (take (r.place + r.width) f)
through m f r w e b = accepted_or_refused (sym (complete m b.0) ∙ ap (run m) b.2 ∙ local m f r w e b.1)
