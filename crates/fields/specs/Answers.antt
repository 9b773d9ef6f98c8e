-- What the code answers, given what the reader of the form sees: a content and the place behind it, or the refusal.
use Rattle.std.specs.Prelude.{ℕ, cond, List, ◌++◌, Option, Some, None, Result, Ok, Err}
use Rattle.std.proofs.Math.Option as math
use Rattle.form.specs.Reader.{Reason, Look, has, lacks}
use Rattle.form.specs.Place.{Read, done, halt}
use Rattle.document.specs.Signs.{ascii}
use Rattle.document.specs.Rules.{begins_with_g, ends_in_k}
use Rattle.verdict.specs.Verdicts.{number_of}
use Rattle.fields.specs.declared.Refusal.{Refusal}
use Rattle.fields.specs.declared.FileKind.{FileKind}

abbrev pub refusal_of : ℕ → ℕ → Refusal
refusal_of n p = record { number = n; place = p }

-- the refusal for a reason, at the place of the field
abbrev pub refusal_at : Reason → ℕ → Refusal
refusal_at z p = refusal_of (number_of z) p

-- a content, or a refusal
abbrev pub Reading : Type 0 → Type 0
Reading T = Result T Refusal

-- what the code keeps of an X, with the place behind it
abbrev pub Telling : Type 0 → Type 0 → Type 0
Telling X T = X → ℕ → T

-- the answer to a field at place p, with q behind it
unfoldable pub of_field : {X T : Type 0} → Telling X T → ℕ → ℕ → Look X → Reading T
of_field t p q (has v) = Ok (t v q)
of_field t p q (lacks z) = Err (refusal_at z p)

-- the answer to a form that was read, whatever the names of its fields
unfoldable pub of_read : {A T N : Type 0} → Telling A T → Read N A → Reading T
of_read t (done a q) = Ok (t a q)
of_read t (halt r) = Err (refusal_at r.reason r.place)

-- why reading refuses; 0 at 0 where it does not
abbrev pub why : {T : Type 0} → Reading T → Refusal
why (Ok x) = refusal_of 0 0
why (Err r) = r

-- ---- what the leaves keep

-- nothing of fixed bytes and of texts
abbrev pub passings : {X : Type 0} → Telling X ℕ
passings v q = q

abbrev pub numbers : Telling ℕ (ℕ × ℕ)
numbers v q = (v, q)

abbrev pub or_none : math.Option ℕ → Option ℕ
or_none math.none = None
or_none (math.some v) = Some v

abbrev pub maybe_numbers : Telling (math.Option ℕ) (Option ℕ × ℕ)
maybe_numbers v q = (or_none v, q)

-- the kind of file that the two letters of A3 tell
abbrev pub kind_of : List ℕ → FileKind
kind_of letters = record { credit = begins_with_g letters; customer = ends_in_k letters }

-- the two letters of A3 for a kind of file
abbrev pub letters_of : FileKind → List ℕ
letters_of k = cond k.credit (ascii "G") (ascii "L") ++ cond k.customer (ascii "K") (ascii "B")

abbrev pub kinds : Telling (List ℕ) (FileKind × ℕ)
kinds letters q = (kind_of letters, q)
