-- Composing one line, for any form: the fields that a legal value prints are composed to it, and a line that is composed has such fields.
use Prim.Native.Nat.{ℕ}
use native.Mathlib.Omega.{arith}
use mathlib.Core.Path.{◌≡◌, refl, sym, ap}
use mathlib.Core.Bool.{Bool, true, false, ◌&&◌}
use mathlib.Core.List.{List, [], ◌∷◌, ◌++◌}
use lib.ListN.{drop}
use lib.Dec.{T}
use Rattle.form.specs.Kind.{same}
use Rattle.form.specs.Form.{Form}
use Rattle.form.specs.Place.{Read, done, halt, read_at}
use Rattle.form.proofs.BoolLaws.{is_true, and_both}
use Rattle.form.proofs.KindLaws.{same_self, same_eq}
use Rattle.form.proofs.RulesLaws.{read_legal, whole_read, Says}
use Rattle.verdict.specs.declared.Verdict.{Verdict}
use Rattle.verdict.specs.Verdicts.{refusing}
use Rattle.diskette.specs.Fields.{Name}
use Rattle.listing.specs.Records.{Piece, lay, cells, formed}
use Rattle.listing.specs.Composing.{Composed, made, denied, and_then, provided, heard, compose_line}

pub made_or_denied : {A : Type 0} {a : A} {v : Verdict} → made a ≡ denied v → ⊥
made_or_denied e = let c : ◌≡◌ {A = ℕ} 0 1 = cc in omega arith

pub provided_made : {A : Type 0} (b : Bool) (v : Verdict) (c : Composed A) (a : A) → provided b v c ≡ made a → T b × (c ≡ made a)
provided_made true v c a e = (tt, e)
provided_made false v c a e = absurd (made_or_denied (sym e))

pub and_then_made : {A B : Type 0} (c : Composed A) (k : A → Composed B) (b : B) → and_then c k ≡ made b → (a : A) × (c ≡ made a) × (k a ≡ made b)
and_then_made (made a) k b e = (a, refl, e)
and_then_made (denied v) k b e = absurd (made_or_denied (sym e))

heard_made : {A : Type 0} (ps : List Piece) (ts : List (List ℕ)) (p : ℕ) (x : Read Name A) (a : A) → heard ps ts p x ≡ made a
    → (q : ℕ) × (x ≡ done a q)
heard_made {A} ps ts p (done b q) a e = let h : b ≡ a = cc in (q, ap (λ (y : A). done y q) h)
heard_made ps ts p (halt r) a e = absurd (made_or_denied (sym e))

-- a line that was composed to a: its letter, fields of the form, and a legal value whose bytes begin the record that they stand for
pub record Heard {A : Type 0} (Legal : A → Type 0) (write : A → List ℕ) (letter : List ℕ) (ps : List Piece) (ts : List (List ℕ)) (a : A)
    : Type 0 where
  pub fields : List (List ℕ)
  pub line : ts ≡ letter ∷ fields
  pub formed : T (formed (cells 0 ps) fields)
  pub legal : Legal a
  pub rest : List ℕ
  pub laid : lay ps fields ≡ write a ++ rest

module _ {A : Type 0} (m : Form Name A) (Legal : A → Type 0) (write : A → List ℕ) (says : Says m Legal write)
    (letter : List ℕ) (ps : List Piece) (p : ℕ) where
  pub line_composes : (ts : List (List ℕ)) (a : A) → T (formed (cells 0 ps) ts) → Legal a → lay ps ts ≡ write a
      → compose_line m letter ps p (letter ∷ ts) ≡ made a
  line_composes ts a f l e =
      rw (is_true (same letter letter) (same_self letter), is_true (formed (cells 0 ps) ts) f, e, whole_read m Legal write says a l)

  pub line_heard : (ts : List (List ℕ)) (a : A) → compose_line m letter ps p ts ≡ made a → Heard Legal write letter ps ts a
  line_heard [] a e = absurd (made_or_denied (sym e))
  line_heard (t ∷ ts) a e =
      let g = provided_made (same letter t && formed (cells 0 ps) ts) (refusing 17 p) (heard ps ts p (read_at m (lay ps ts) 0)) a e in
      let b = and_both (same letter t) (formed (cells 0 ps) ts) g.0 in
      let d = heard_made ps ts p (read_at m (lay ps ts) 0) a g.1 in
      let r = read_legal m Legal write says (lay ps ts) 0 d.0 a d.1 in
      record {
        fields = ts;
        line = ap (λ (x : List ℕ). x ∷ ts) (sym (same_eq letter t b.0));
        formed = b.1;
        legal = r.0;
        rest = drop d.0 (lay ps ts);
        laid = r.1;
      }
