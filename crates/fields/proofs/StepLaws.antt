-- A form read field by field is one step after another: the answer of a leaf, and what follows its content.
-- A reader goes on behind a content and hands a refusal on, as `let .. else` and `?` do; that is `onward`. What a form gives from a place on is
-- onward from the answer for its first field (`step`, `step_ruled`), whatever of the value the answer keeps, if what follows needs no more: that is
-- the walk of `WalkLaws`, one field on. A stretch of a form has one law by these, an equation with a step for each field, and the check goes along it
-- where a reader's code does.
use Rattle.std.proofs.Common.{◌≡◌, ℕ, ◌+◌, List, [], Ok, Err, sym, refl, ap, ◌∙◌}
use Rattle.form.specs.Kind.{Kind, Value, width}
use Rattle.form.specs.Form.{Rule, Form, ret, field, ◌>>=◌}
use Rattle.form.specs.Reader.{Reason, Look, has, lacks}
use Rattle.form.specs.Place.{look_at, field_at, Read, done, halt, read_at, and_then}
use Rattle.form.proofs.PlaceLaws.{read_bind}
use Rattle.fields.specs.Answers.{refusal_at, Reading, Telling, of_field, of_read}
use Rattle.fields.proofs.WalkLaws.{Walk, start, past, past_ruled, stop, stop_ruled, finish}

-- what follows a content
abbrev pub onward : {S T : Type 0} → Reading S → (S → Reading T) → Reading T
onward (Ok x) k = k x
onward (Err r) k = Err r

all_told : {S : Type 0} (r : Reading S) → onward r (λ x. Ok x) ≡ r
all_told (Ok x) = refl
all_told (Err r) = refl

-- the fields of m from place p of the file f on give g, of which t is kept
pub record Gives {A T N : Type 0} (t : Telling A T) (f : List ℕ) (m : Form N A) (p : ℕ) (g : Reading T) : Type 0 where
  pub is : of_read t (read_at m f p) ≡ g

pub at_end : {A T N : Type 0} {t : Telling A T} {f : List ℕ} {a : A} {q : ℕ} → Gives {N = N} t f (ret a) q (Ok (t a q))
at_end {a = a} {q = q} = record { is = sym (finish (start (ret a) q)) }

-- a field that is seen as l: behind a content the walk goes on, and where there is none its refusal is what is owed
walked : {A T N S : Type 0} {t : Telling A T} {f : List ℕ} {g : Reading T} (κ : Kind) {next : Value κ → Form N A} {p : ℕ} (u : Telling (Value κ) S)
    (k : S → Reading T) → ((v : Value κ) → Gives t f (next v) (p + width κ) (k (u v (p + width κ)))) → (l : Look (Value κ))
    → ((v : Value κ) → l ≡ has v → Walk t f g (next v) (p + width κ)) → ((z : Reason) → l ≡ lacks z → Err (refusal_at z p) ≡ g)
    → g ≡ onward (of_field u p (p + width κ) l) k
unfolding of_field
walked {g = g} κ {p = p} u k follows l goes stops = by l refl
  where
    by : (x : Look (Value κ)) → l ≡ x → g ≡ onward (of_field u p (p + width κ) x) k
    by (has v) e = (goes v e).owed ∙ (follows v).is
    by (lacks z) e = sym (stops z e)

module _ {A T N S : Type 0} {t : Telling A T} {f : List ℕ} {ν : N} {κ : Kind} {next : Value κ → Form N A} {p : ℕ} (u : Telling (Value κ) S) (k : S → Reading T)
    (follows : (v : Value κ) → Gives t f (next v) (p + width κ) (k (u v (p + width κ)))) where
  pub step_ruled : {rs : Value κ → List Rule} → Gives t f (field ν κ rs next) p (onward (of_field u p (p + width κ) (field_at κ rs f p)) k)
  unfolding of_field
  step_ruled {rs} =
      record {
        is = walked κ u k follows (field_at κ rs f p)
            (λ v e. past_ruled (start (field ν κ rs next) p) (e, refl))
            (λ z e. stop_ruled u (p + width κ) (start (field ν κ rs next) p) refl (ap (of_field u p (p + width κ)) e));
      }

  pub step : Gives t f (field ν κ (λ v. []) next) p (onward (of_field u p (p + width κ) (look_at κ f p)) k)
  unfolding of_field
  step =
      record {
        is = walked κ u k follows (look_at κ f p)
            (λ v e. past (start (field ν κ (λ v. []) next) p) (e, refl))
            (λ z e. stop u (p + width κ) (start (field ν κ (λ v. []) next) p) refl (ap (of_field u p (p + width κ)) e));
      }

-- the last field: what is kept of it is what is kept of the form
module _ {A T N : Type 0} {t : Telling A T} {f : List ℕ} {ν : N} {κ : Kind} {next : Value κ → Form N A} {p : ℕ} (u : Telling (Value κ) T)
    (ends : (v : Value κ) → Gives t f (next v) (p + width κ) (Ok (u v (p + width κ)))) where
  pub last_ruled : {rs : Value κ → List Rule} → Gives t f (field ν κ rs next) p (of_field u p (p + width κ) (field_at κ rs f p))
  last_ruled {rs} = record { is = (step_ruled u (λ x. Ok x) ends {rs = rs}).is ∙ all_told (of_field u p (p + width κ) (field_at κ rs f p)) }

  pub last : Gives t f (field ν κ (λ v. []) next) p (of_field u p (p + width κ) (look_at κ f p))
  last = record { is = (step u (λ x. Ok x) ends).is ∙ all_told (of_field u p (p + width κ) (look_at κ f p)) }

-- a form that another reader reads
module _ {A B T N S : Type 0} {t : Telling A T} {f : List ℕ} (m : Form N B) (g : B → Form N A) {p : ℕ} (u : Telling B S) (k : S → Reading T)
    (follows : (b : B) (q : ℕ) → read_at m f p ≡ done b q → Gives t f (g b) q (k (u b q))) where
  pub step_part : Gives t f (m >>= g) p (onward (of_read u (read_at m f p)) k)
  unfolding of_read
  step_part = record { is = rw (read_bind m g f p) (by (read_at m f p) refl) }
    where
      by : (x : Read N B) → read_at m f p ≡ x → of_read t (and_then x (λ b q. read_at (g b) f q)) ≡ onward (of_read u x) k
      by (done b q) e = (follows b q e).is
      by (halt r) e = refl
