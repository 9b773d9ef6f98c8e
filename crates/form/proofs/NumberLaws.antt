-- Which numbers a form gives: a rule that is broken is a rule of the form, so its number is one of the form's.
-- `Numbered p` says of a form that p holds of the number of every rule, whatever is read ahead of it; it is put together along the form
-- (`numbered_bind`, `numbered_fork`) and passes to longer lists of numbers. `number_given` goes by induction over the form with the three cases
-- of `meet`: bytes that are too few or wrong bring a reason that is no rule (`judge_lacks`), a field that is in order leaves the refusal to the
-- fields behind it, and at the refused field `rule_broken` finds the rule in its list.
use Prim.Native.Nat.{ℕ}
use native.Mathlib.Omega.{arith}
use mathlib.Core.Path.{◌≡◌, refl, sym, ap, ◌∙◌}
use mathlib.Core.Bool.{Bool, true, false}
use mathlib.Core.List.{List, [], ◌∷◌}
use mathlib.Core.Option.{some}
use lib.ListN.{take, drop}
use lib.Dec.{T}
use Rattle.form.specs.Kind.{Kind, fixed, digits, maybe, text, choice, Value, width, every, same, among, one_of, digit, blanks}
use Rattle.form.specs.Form.{Rule, rule, Form, ret, field, fork, ◌>>=◌}
use Rattle.form.specs.Reader.{Reason, short, not_fixed, not_digit, not_sign, breaks, surplus, Refusal, refused, Look, has, lacks, if_so, number, optional, judge, obey, ◌then◌, settle, run}
use Rattle.form.proofs.KindLaws.{one_of_every}
use Rattle.form.proofs.AnswerLaws.{has_or_lacks, accepted_or_refused, same_refusal}
use Rattle.form.proofs.ReaderLaws.{cut, bad, good, meet, behind}

-- a number of one list is a number of a longer one
pub one_within : (xs ys : List ℕ) (n : ℕ) → T (every (one_of ys) xs) → T (one_of xs n) → T (one_of ys n)
one_within xs ys n = one_of_every (one_of ys) xs n

-- p holds of the number of each rule
abbrev pub NumberedRules : (ℕ → Bool) → List Rule → Type 0
NumberedRules p [] = Unit {0}
NumberedRules p (rule n b ∷ rs) = T (p n) × NumberedRules p rs

-- p holds of the number of each rule of each field
abbrev pub Numbered : {N A : Type 0} → (ℕ → Bool) → Form N A → Type 0
Numbered p (ret a) = Unit {0}
Numbered p (field ν κ rs next) = (v : Value κ) → NumberedRules p (rs v) × Numbered p (next v)

pub numbered_bind : {N A B : Type 0} (p : ℕ → Bool) (m : Form N A) (k : A → Form N B) → Numbered p m → ((a : A) → Numbered p (k a)) → Numbered p (m >>= k)
numbered_bind p (ret a) k h i = i a
numbered_bind p (field ν κ rs next) k h i = λ v. ((h v).0, numbered_bind p (next v) k (h v).1 i)

-- a form with numbers of one list has numbers of a longer one
rules_within : (xs ys : List ℕ) → T (every (one_of ys) xs) → (rs : List Rule) → NumberedRules (one_of xs) rs → NumberedRules (one_of ys) rs
rules_within xs ys w [] h = tt
rules_within xs ys w (rule n b ∷ rs) h = (one_within xs ys n w h.0, rules_within xs ys w rs h.1)

pub numbered_within : {N A : Type 0} (xs ys : List ℕ) → T (every (one_of ys) xs) → (m : Form N A) → Numbered (one_of xs) m → Numbered (one_of ys) m
numbered_within xs ys w (ret a) h = tt
numbered_within xs ys w (field ν κ rs next) h = λ v. (rules_within xs ys w (rs v) (h v).0, numbered_within xs ys w (next v) (h v).1)

pub numbered_fork : {N A : Type 0} (p : ℕ → Bool) (b : Bool) (m : Form N A) (k : Unit {0} → Form N A) → Numbered p m → Numbered p (k tt) → Numbered p (fork b m k)
numbered_fork p true m k h i = h
numbered_fork p false m k h i = i

-- ---- one field

-- the bytes of a field are not as they should be: no rule was looked at
pub data OfBytes : Reason → Type 0 where
  no_word : OfBytes not_fixed
  no_digit : OfBytes not_digit
  no_sign : OfBytes not_sign

no_rule : {z : Reason} (n : ℕ) → OfBytes z → z ≡ breaks n → ⊥
no_rule n no_word e = let c : ◌≡◌ {A = ℕ} 0 1 = cc in omega arith
no_rule n no_digit e = let c : ◌≡◌ {A = ℕ} 0 1 = cc in omega arith
no_rule n no_sign e = let c : ◌≡◌ {A = ℕ} 0 1 = cc in omega arith

not_so : {X : Type 0} (b : Bool) (v : X) (y z : Reason) → OfBytes y → if_so b v y ≡ lacks z → OfBytes z
not_so true v y z o e = absurd (has_or_lacks e)
not_so false v y z o e = let h : y ≡ z = cc in rw (← h) o

pub judge_lacks : (κ : Kind) (f : List ℕ) (z : Reason) → judge κ f ≡ lacks z → OfBytes z
unfolding judge
judge_lacks (fixed bs) f z e = not_so (same bs f) tt not_fixed z no_word e
judge_lacks (digits w) f z e = not_so (every digit f) (number f) not_digit z no_digit e
judge_lacks (maybe w) f z e = by (same (blanks w) f) e
  where
    by : (b : Bool) → optional b f ≡ lacks z → OfBytes z
    by true e = absurd (has_or_lacks e)
    by false e = not_so (every digit f) (some (number f)) not_digit z no_digit e
judge_lacks (text sign w) f z e = not_so (every sign f) f not_sign z no_sign e
judge_lacks (choice w words) f z e = not_so (among words f) f not_fixed z no_word e

pub rule_broken : {X : Type 0} (p : ℕ → Bool) (rs : List Rule) (v : X) (n : ℕ) → NumberedRules p rs → obey rs v ≡ lacks (breaks n) → T (p n)
rule_broken p [] v n h e = absurd (has_or_lacks e)
rule_broken p (rule m true ∷ rs) v n h e = rule_broken p rs v n h.1 e
rule_broken p (rule m false ∷ rs) v n h e = let g : m ≡ n = cc in rw (← g) h.0

field_number : (p : ℕ → Bool) (κ : Kind) (rs : Value κ → List Rule) (f : List ℕ) (n : ℕ) → ((v : Value κ) → NumberedRules p (rs v)) → settle κ rs f ≡ lacks (breaks n) → T (p n)
field_number p κ rs f n h e = by (judge κ f) refl e
  where
    by : (j : Look (Value κ)) → judge κ f ≡ j → ◌then◌ j (λ v. obey (rs v) v) ≡ lacks (breaks n) → T (p n)
    by (has v) q e = rule_broken p (rs v) v n (h v) e
    by (lacks y) q e = absurd (no_rule n (judge_lacks κ f (breaks n) (q ∙ e)) refl)

-- ---- a form

not_short : {n : ℕ} → short ≡ breaks n → ⊥
not_short e = let c : ◌≡◌ {A = ℕ} 0 1 = cc in omega arith

not_surplus : {n : ℕ} → surplus ≡ breaks n → ⊥
not_surplus e = let c : ◌≡◌ {A = ℕ} 0 1 = cc in omega arith

-- where a file is refused by a rule, p holds of the number of that rule
pub number_given : {N A : Type 0} (p : ℕ → Bool) (m : Form N A) (f : List ℕ) (r : Refusal N) → Numbered p m → run m f ≡ refused r → (n : ℕ) → r.reason ≡ breaks n → T (p n)
unfolding run
number_given p (ret b) [] r h e n i = absurd (accepted_or_refused e)
number_given {N} p (ret b) (x ∷ xs) r h e n i = absurd (not_surplus (ap (λ (y : Refusal N). y.reason) (same_refusal _ r e) ∙ i))
number_given {N} p (field ν κ rs next) f r h e n i =
    elim (meet ν κ rs next f) [
      | cut c ↦ absurd (not_short (ap (λ (y : Refusal N). y.reason) (same_refusal _ r (sym c ∙ e)) ∙ i))
      | bad z l j c ↦
          let s : z ≡ breaks n = ap (λ (y : Refusal N). y.reason) (same_refusal _ r (sym c ∙ e)) ∙ i in
          field_number p κ rs (take (width κ) f) n (λ v. (h v).0) (j ∙ ap {B = Look (Value κ)} lacks s)
      | good v l j c ↦
          let k = behind (width κ) (run (next v) (drop (width κ) f)) r (sym c ∙ e) in
          number_given p (next v) (drop (width κ) f) k.there (h v).1 k.given n (sym k.reason ∙ i)
    ]
