-- A field has a content or lacks one, and a file is accepted or refused: never both.
use Prim.Native.Nat.{ℕ}
use native.Mathlib.Omega.{arith}
use mathlib.Core.Path.{◌≡◌}
use Rattle.form.specs.Reader.{Reason, Refusal, Answer, accepted, refused, has, lacks}

pub has_or_lacks : {X : Type 0} {v : X} {z : Reason} → has v ≡ lacks z → ⊥
has_or_lacks e = let c : ◌≡◌ {A = ℕ} 0 1 = cc in omega arith

pub accepted_or_refused : {N A : Type 0} {a : A} {r : Refusal N} → ◌≡◌ {A = Answer N A} (accepted a) (refused r) → ⊥
accepted_or_refused e = let c : ◌≡◌ {A = ℕ} 0 1 = cc in omega arith

pub same_refusal : {N A : Type 0} (q r : Refusal N) → ◌≡◌ {A = Answer N A} (refused q) (refused r) → q ≡ r
same_refusal q r e = cc
