-- The reader at a place of a file, for code that reads record by record: one field there, or a form from there on.
use Rattle.std.specs.Prelude.{ℕ, ◌+◌, Bool, true, false, List, length, take, drop, leb}
use Rattle.std.proofs.Math.Option.{none, some}
use Rattle.form.specs.Kind.{Kind, Value, width}
use Rattle.form.specs.Form.{Rule, Form, ret, field}
use Rattle.form.specs.Reader.{surplus, Refusal, Answer, accepted, refused, Look, has, lacks, ◌then◌, judge, obey, if_whole}

-- the bytes of a field at place p: whole, then its bytes
unfoldable pub look_at : (κ : Kind) → List ℕ → ℕ → Look (Value κ)
look_at κ f p = if_whole (leb (p + width κ) (length f)) (judge κ (take (width κ) (drop p f)))

-- a field at place p: whole, then its bytes, then its rules
abbrev pub field_at : (κ : Kind) → (Value κ → List Rule) → List ℕ → ℕ → Look (Value κ)
field_at κ rs f p = ◌then◌ (look_at κ f p) (λ v. obey (rs v) v)

-- what was read and the place after it, or the refusal
pub data Read (N A : Type 0) : Type 0 where
  done : A → ℕ → Read N A
  halt : Refusal N → Read N A

abbrev pub go_on : {N A X : Type 0} → N → ℕ → ℕ → Look X → (X → Read N A) → Read N A
go_on ν p w (has v) k = k v
go_on ν p w (lacks z) k = halt (record { reason = z; place = p; width = w; name = some ν })

-- a form, from place p on
unfoldable pub read_at : {N A : Type 0} → Form N A → List ℕ → ℕ → Read N A
read_at (ret a) f p = done a p
read_at (field ν κ rs next) f p = go_on ν p (width κ) (field_at κ rs f p) (λ v. read_at (next v) f (p + width κ))

-- one reading after another
abbrev pub and_then : {N A B : Type 0} → Read N A → (A → ℕ → Read N B) → Read N B
and_then (done a q) k = k a q
and_then (halt r) k = halt r

-- a file is over where its last field ends: bytes behind that are surplus
abbrev pub if_over : {N A : Type 0} → Bool → A → ℕ → Answer N A
if_over true a q = accepted a
if_over false a q = refused (record { reason = surplus; place = q; width = 1; name = none })

-- the answer to a file of n bytes, read so far
abbrev pub over : {N A : Type 0} → Read N A → ℕ → Answer N A
over (done a q) n = if_over (leb n q) a q
over (halt r) n = refused r
