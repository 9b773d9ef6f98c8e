-- Code that reads a form field by field, whatever the names of its fields: where it stands, what it owes, and how a field or another reader
-- takes it on or ends it.
-- The invariant is `Walk`: the code has come to place p, and the answer g that it owes is what the fields from there on give. The start owes the
-- whole form; a field with a content takes the walk behind it, to the form that follows that value (`past`, `past_ruled`); a field without one is
-- the refusal that is owed (`stop`, `stop_ruled`); at the form's end the answer is given (`finish`). A form that another reader reads takes the
-- walk on in the same two ways, because forms one after another are read one after another (`read_bind`). Loops go by walks; readers of a known row
-- of fields go by the steps of `StepLaws`.
use Rattle.std.proofs.Common.{◌≡◌, ℕ, ◌+◌, List, [], Ok, Err, sym, refl, ap, ◌∙◌}
use Rattle.form.specs.Kind.{Kind, Value, width}
use Rattle.form.specs.Form.{Rule, Form, ret, field, ◌>>=◌}
use Rattle.form.specs.Reader.{Reason, Look, has, lacks, ◌then◌}
use Rattle.form.specs.Place.{look_at, field_at, Read, done, halt, read_at, and_then}
use Rattle.form.specs.Reader as reader
use Rattle.form.proofs.PlaceLaws.{read_bind}
use Rattle.fields.specs.declared.Refusal.{Refusal}
use Rattle.fields.specs.Answers.{refusal_at, Reading, Telling, of_field, of_read}

-- ---- what an answer tells of a field

-- a field has a content, and y is what is kept of it, with the place n behind it
pub record Stands {X T : Type 0} (t : Telling X T) (l : Look X) (n : ℕ) (y : T) : Type 0 where
  pub value : X
  pub content : l ≡ has value
  pub given : y ≡ t value n

-- a field has no content, and r is the refusal at its place p
pub record Fails {X : Type 0} (l : Look X) (p : ℕ) (r : Refusal) : Type 0 where
  pub reason : Reason
  pub lack : l ≡ lacks reason
  pub refusal : r ≡ refusal_at reason p

module _ {X T : Type 0} (t : Telling X T) {a : Reading T} (p n : ℕ) (l : Look X) (told : a ≡ of_field t p n l) where
  pub stands : {y : T} → a ≡ Ok y → Stands t l n y
  unfolding of_field
  stands {y} given = by l (sym told ∙ given)
    where
      by : (l : Look X) → of_field t p n l ≡ Ok y → Stands t l n y
      by (has v) e = record { value = v; content = refl; given = cc }
      by (lacks z) e = absurd cc

  pub fails : {x : Refusal} → a ≡ Err x → Fails l p x
  unfolding of_field
  fails {x} given = by l (sym told ∙ given)
    where
      by : (l : Look X) → of_field t p n l ≡ Err x → Fails l p x
      by (has v) e = absurd cc
      by (lacks z) e = record { reason = z; lack = refl; refusal = cc }

-- ---- the walk through a form

-- the code has come to place p of the file f, and owes g: what the fields of m from there on give
pub record Walk {A T N : Type 0} (t : Telling A T) (f : List ℕ) (g : Reading T) (m : Form N A) (p : ℕ) : Type 0 where
  pub owed : g ≡ of_read t (read_at m f p)

module _ {A T N : Type 0} {t : Telling A T} {f : List ℕ} where
  pub start : (m : Form N A) (p : ℕ) → Walk t f (of_read t (read_at m f p)) m p
  start m p = record { owed = refl }

  -- a field whose leaf has looked at its rules
  module _ {g : Reading T} {ν : N} {κ : Kind} {rs : Value κ → List Rule} {next : Value κ → Form N A} {p : ℕ} (w : Walk t f g (field ν κ rs next) p) where
    pub past_ruled : {v : Value κ} {q : ℕ} → (field_at κ rs f p ≡ has v) × (q ≡ p + width κ) → Walk t f g (next v) q
    unfolding read_at
    past_ruled s = record { owed = w.owed ∙ rw (s.0, s.1) }

    pub stopped_ruled : {r : Refusal} → Fails (field_at κ rs f p) p r → Err r ≡ g
    unfolding read_at of_read
    stopped_ruled x = rw x.refusal (sym (w.owed ∙ rw x.lack))

-- ---- a field without rules, and the end

-- a field without rules of its own
pub plain : {X : Type 0} (l : Look X) → ◌then◌ l (λ v. has v) ≡ l
plain (has v) = refl
plain (lacks z) = refl

module _ {A T N : Type 0} {t : Telling A T} {f : List ℕ} {g : Reading T} where
  pub past : {ν : N} {κ : Kind} {next : Value κ → Form N A} {p : ℕ} → Walk t f g (field ν κ (λ v. []) next) p → {v : Value κ} {q : ℕ}
      → (look_at κ f p ≡ has v) × (q ≡ p + width κ) → Walk t f g (next v) q
  past {κ = κ} {p = p} w s = past_ruled w (plain (look_at κ f p) ∙ s.0, s.1)

  pub finish : {a : A} {q : ℕ} → Walk {N = N} t f g (ret a) q → Ok (t a q) ≡ g
  unfolding read_at of_read
  finish w = sym w.owed

  -- the leaf's refusal is handed on
  module _ {ν : N} {κ : Kind} {next : Value κ → Form N A} {p : ℕ} {S : Type 0} (u : Telling (Value κ) S) {a : Reading S} (n : ℕ) {r : Refusal} where
    pub stop_ruled : {rs : Value κ → List Rule} → Walk t f g (field ν κ rs next) p → a ≡ of_field u p n (field_at κ rs f p) → a ≡ Err r → Err r ≡ g
    stop_ruled {rs} w told given = stopped_ruled w (fails u p n (field_at κ rs f p) told given)

    pub stop : Walk t f g (field ν κ (λ v. []) next) p → a ≡ of_field u p n (look_at κ f p) → a ≡ Err r → Err r ≡ g
    stop w told given =
        let x = fails u p n (look_at κ f p) told given in
        stopped_ruled w (record { reason = x.reason; lack = plain (look_at κ f p) ∙ x.lack; refusal = x.refusal })

-- ---- a form that another reader reads

-- another reader has read a form, and y is what it keeps of it
pub record Reads {B S N : Type 0} (u : Telling B S) (x : Read N B) (y : S) : Type 0 where
  pub value : B
  pub place : ℕ
  pub done : x ≡ done value place
  pub given : y ≡ u value place

module _ {B S N : Type 0} (u : Telling B S) {a : Reading S} (x : Read N B) (told : a ≡ of_read u x) where
  pub reads : {y : S} → a ≡ Ok y → Reads u x y
  unfolding of_read
  reads {y} given = by x (sym told ∙ given)
    where
      by : (x : Read N B) → of_read u x ≡ Ok y → Reads u x y
      by (done b q) e = record { value = b; place = q; done = refl; given = cc }
      by (halt r) e = absurd cc

  -- another reader has refused a form, and r is the refusal
  pub halts : {r : Refusal} → a ≡ Err r → (z : reader.Refusal N) × (x ≡ halt z) × (r ≡ refusal_at z.reason z.place)
  unfolding of_read
  halts {r} given = by x (sym told ∙ given)
    where
      by : (x : Read N B) → of_read u x ≡ Err r → (z : reader.Refusal N) × (x ≡ halt z) × (r ≡ refusal_at z.reason z.place)
      by (done b q) e = absurd cc
      by (halt z) e = (z, refl, cc)

module _ {A T N : Type 0} {t : Telling A T} {f : List ℕ} {B : Type 0} {g : Reading T} (m : Form N B) (k : B → Form N A) {p : ℕ} (w : Walk t f g (m >>= k) p) where
  pub past_part : {b : B} {q : ℕ} → read_at m f p ≡ done b q → Walk t f g (k b) q
  past_part e = record { owed = w.owed ∙ rw (read_bind m k f p, e) }

  -- the refusal of the other reader is handed on
  pub stopped_part : {S : Type 0} (u : Telling B S) {r : Refusal} → Err r ≡ of_read u (read_at m f p) → Err r ≡ g
  unfolding of_read
  stopped_part u told =
      let h = halts u (read_at m f p) told refl in
      rw (h.2) (sym (w.owed ∙ ap (of_read t) (read_bind m k f p ∙ ap (λ y. and_then y (λ a q. read_at (k a) f q)) h.1)))

-- a form that only makes another value of what is read: its answer is owed as that of the form itself
pub retold : {A B T N : Type 0} (t : Telling B T) (u : Telling A T) {f : List ℕ} {g : Reading T} (m : Form N A) (h : A → B) {p : ℕ}
    → ((a : A) (q : ℕ) → t (h a) q ≡ u a q) → Walk t f g (m >>= λ a. ret (h a)) p → Walk u f g m p
unfolding read_at of_read
retold {A} {B} {N = N} t u {f} m h {p} same w = record { owed = w.owed ∙ ap (of_read t) (read_bind m (λ a. ret (h a)) f p) ∙ by (read_at m f p) }
  where
    by : (x : Read N A) → of_read t (and_then x (λ a q. done (h a) q)) ≡ of_read u x
    by (done a q) = ap (λ y. Ok y) (same a q)
    by (halt r) = refl
