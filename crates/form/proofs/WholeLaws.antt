-- What stops a reading: too few bytes, the bytes of a field, or a rule. Where the bytes suffice for the form it is never the first; it is never
-- that bytes follow.
use Prim.Native.Nat.{ℕ, ◌+◌, ◌≤◌}
use native.Mathlib.Omega.{arith}
use mathlib.Core.Path.{◌≡◌, refl, sym, ap, subst, ◌∙◌}
use mathlib.Core.Bool.{Bool, true, false}
use mathlib.Core.List.{List, [], ◌∷◌}
use mathlib.Core.Option.{none}
use lib.ListN.{length, take, drop}
use lib.Dec.{T, leb}
use borrow.Author.Tests.{le-leb, leb-true}
use Rattle.form.specs.Kind.{Kind, fixed, digits, maybe, text, choice, Value, width}
use Rattle.form.specs.Form.{Rule, rule, Holds, Form, ret, field, ◌>>=◌}
use Rattle.form.specs.Reader.{Reason, short, breaks, Refusal, Look, has, lacks, ◌then◌, judge, obey, if_whole}
use Rattle.form.specs.Place.{look_at, field_at, Read, done, halt, go_on, read_at}
use Rattle.form.proofs.AnswerLaws.{has_or_lacks}
use Rattle.form.proofs.FilledLaws.{field_content}
use Rattle.form.proofs.NumberLaws.{NumberedRules, Numbered, OfBytes, judge_lacks}

-- ---- where a form ends

-- read from place q on the form ends at e at the latest, whatever is read, as long as the rules are kept
abbrev pub EndsBy : {N A : Type 0} → Form N A → ℕ → ℕ → Type 0
EndsBy (ret a) q e = Unit {0}
EndsBy (field ν κ rs next) q e = (v : Value κ) → (q + width κ ≤ e) × (Holds (rs v) → EndsBy (next v) (q + width κ) e)

-- one form, and then another from wherever the first ends
pub ends_bind : {N A B : Type 0} (m : Form N A) (k : A → Form N B) (q middle e : ℕ) → q ≤ middle → middle ≤ e → EndsBy m q middle
    → ((a : A) (p : ℕ) → p ≤ middle → EndsBy (k a) p e) → EndsBy (m >>= k) q e
ends_bind (ret a) k q middle e first second w h = h a q first
ends_bind (field ν κ rs next) k q middle e first second w h =
    λ v. (omega (arith, (w v).0), λ kept. ends_bind (next v) k (q + width κ) middle e (w v).0 second ((w v).1 kept) h)

-- each kind has a value: so the first field of a form that ends by e ends by e itself
some_value : (κ : Kind) → Value κ
some_value (fixed bs) = tt
some_value (digits w) = 0
some_value (maybe w) = none
some_value (text sign w) = []
some_value (choice w words) = []

-- ---- what stops the reading

-- what stops a reading other than too few bytes: the bytes of a field, or a rule of whose number p holds
pub data Stopped (p : ℕ → Bool) : Reason → Type 0 where
  by_bytes : {z : Reason} → OfBytes z → Stopped p z
  by_rule : (n : ℕ) → T (p n) → Stopped p (breaks n)

pub rule_stops : {X : Type 0} (p : ℕ → Bool) (rs : List Rule) (v : X) (z : Reason) → NumberedRules p rs → obey rs v ≡ lacks z → Stopped p z
rule_stops p [] v z h e = absurd (has_or_lacks e)
rule_stops p (rule n true ∷ rs) v z h e = rule_stops p rs v z h.1 e
rule_stops p (rule n false ∷ rs) v z h e = let g : breaks n ≡ z = cc in subst (Stopped p) g (by_rule n h.0)

pub done_or_halt : {N A : Type 0} {a : A} {q : ℕ} {r : Refusal N} → ◌≡◌ {A = Read N A} (done a q) (halt r) → ⊥
done_or_halt e = let c : ◌≡◌ {A = ℕ} 0 1 = cc in omega arith

pub same_halt : {N A : Type 0} (x r : Refusal N) → ◌≡◌ {A = Read N A} (halt x) (halt r) → x ≡ r
same_halt x r e = cc

module _ (p : ℕ → Bool) (f : List ℕ) where
  -- a field that the bytes suffice for
  field_stops : (κ : Kind) (rs : Value κ → List Rule) (q : ℕ) → q + width κ ≤ length f → ((v : Value κ) → NumberedRules p (rs v))
      → (z : Reason) → field_at κ rs f q ≡ lacks z → Stopped p z
  unfolding look_at
  field_stops κ rs q inside numbers z e = by (judge κ bytes) refl (sym (ap (λ b. ◌then◌ (if_whole b (judge κ bytes)) (λ v. obey (rs v) v)) whole) ∙ e)
    where
      bytes : List ℕ
      bytes = take (width κ) (drop q f)

      whole : leb (q + width κ) (length f) ≡ true
      whole = le-leb (q + width κ) (length f) inside

      by : (j : Look (Value κ)) → judge κ bytes ≡ j → ◌then◌ j (λ v. obey (rs v) v) ≡ lacks z → Stopped p z
      by (has v) i e = rule_stops p (rs v) v z (numbers v) e
      by (lacks y) i e = let g : y ≡ z = cc in by_bytes (judge_lacks κ bytes z (i ∙ ap lacks g))

  pub stopped : {N A : Type 0} (m : Form N A) (q e : ℕ) (r : Refusal N) → Numbered p m → EndsBy m q e → e ≤ length f → read_at m f q ≡ halt r
      → Stopped p r.reason
  unfolding read_at
  stopped (ret a) q e r h w inside i = absurd (done_or_halt i)
  stopped {N} {A} (field ν κ rs next) q e r h w inside i =
      by (field_at κ rs f q) refl i (λ v kept. stopped (next v) (q + width κ) e r (h v).1 ((w v).1 kept) inside)
    where
      by : (l : Look (Value κ)) → field_at κ rs f q ≡ l → go_on ν q (width κ) l (λ v. read_at (next v) f (q + width κ)) ≡ halt r
          → ((v : Value κ) → Holds (rs v) → read_at (next v) f (q + width κ) ≡ halt r → Stopped p r.reason) → Stopped p r.reason
      by (has v) i e further = further v (field_content κ rs f q v i).1 e
      by (lacks z) i e further =
          let g : z ≡ r.reason = ap (λ (x : Refusal N). x.reason) (same_halt _ r e) in
          subst (Stopped p) g (field_stops κ rs q (omega (arith, (w (some_value κ)).0)) (λ v. (h v).0) z i)

-- ---- whether the bytes suffice or not

-- too few bytes, or what stops a reading where the bytes suffice
pub data Halts (p : ℕ → Bool) : Reason → Type 0 where
  for_want : Halts p short
  for_content : {z : Reason} → Stopped p z → Halts p z

module _ (p : ℕ → Bool) (f : List ℕ) where
  field_halts : (κ : Kind) (rs : Value κ → List Rule) (q : ℕ) → ((v : Value κ) → NumberedRules p (rs v)) → (z : Reason) → field_at κ rs f q ≡ lacks z → Halts p z
  unfolding look_at
  field_halts κ rs q numbers z e = by (leb (q + width κ) (length f)) refl e
    where
      by : (b : Bool) → leb (q + width κ) (length f) ≡ b
          → ◌then◌ (if_whole b (judge κ (take (width κ) (drop q f)))) (λ v. obey (rs v) v) ≡ lacks z → Halts p z
      by true i j = for_content (field_stops p f κ rs q (leb-true (q + width κ) (length f) i) numbers z e)
      by false i j = let g : short ≡ z = cc in subst (Halts p) g for_want

  pub halt_reason : {N A : Type 0} (m : Form N A) (q : ℕ) (r : Refusal N) → Numbered p m → read_at m f q ≡ halt r → Halts p r.reason
  unfolding read_at
  halt_reason (ret a) q r h i = absurd (done_or_halt i)
  halt_reason {N} {A} (field ν κ rs next) q r h i = by (field_at κ rs f q) refl i (λ v. halt_reason (next v) (q + width κ) r (h v).1)
    where
      by : (l : Look (Value κ)) → field_at κ rs f q ≡ l → go_on ν q (width κ) l (λ v. read_at (next v) f (q + width κ)) ≡ halt r
          → ((v : Value κ) → read_at (next v) f (q + width κ) ≡ halt r → Halts p r.reason) → Halts p r.reason
      by (has v) i e further = further v e
      by (lacks z) i e further =
          let g : z ≡ r.reason = ap (λ (x : Refusal N). x.reason) (same_halt _ r e) in
          subst (Halts p) g (field_halts κ rs q (λ v. (h v).0) z i)
