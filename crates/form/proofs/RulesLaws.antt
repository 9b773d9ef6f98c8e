-- A form and rules that speak of values alone: where the filled forms are the legal values, written out, the reader's laws speak of the rules.
-- `Says` holds both directions of that: every legal value fills the form and gives its bytes, and every filled form tells a legal value. Filled
-- forms are joined and parted along `>>=` by induction over the first form (`join`, `split`), so that a record can be shown to say its values
-- stretch by stretch. The laws at the end carry those of `ReaderLaws` and `FilledLaws` over, each in one step through `fill` or `told`.
use Prim.Native.Nat.{ℕ, ◌+◌, ◌≤◌}
use native.Mathlib.Omega.{arith}
use mathlib.Core.Path.{◌≡◌, refl, sym, ap, ◌∙◌, subst}
use mathlib.Core.Logic.{◌≢◌}
use mathlib.Core.Bool.{Bool, true, false, not}
use mathlib.Core.List.{List, ◌++◌, append_assoc, append-nil}
use lib.ListN.{length, take, drop, drop_of_length-le}
use lib.Dec.{T}
use Rattle.form.specs.Kind.{spell}
use Rattle.form.specs.Form.{Form, ret, field, fork, ◌>>=◌, Filled, value, bytes, Viable}
use Rattle.form.specs.Reader.{short, Refusal, Answer, accepted, refused, run}
use Rattle.form.specs.Place.{done, read_at}
use Rattle.form.proofs.ReaderLaws.{complete, sound, ahead, through}
use Rattle.form.proofs.FilledLaws.{read_written, written_read}

-- ---- a filled form, written field by field

-- `content ▸ content ▸ tt`: a field's content, and what comes after it
infixr 5 ◌▸◌
abbrev pub ◌▸◌ : {A : Type 0} {B : A → Type 0} (a : A) → B a → (x : A) × B x
a ▸ b = (a, b)

-- the content of a field of fixed bytes
abbrev pub ok : Unit {0} × Unit {0} × Unit {0}
ok = (tt, tt, tt)

-- a filled form that says a, in these bytes
abbrev pub Filling : {N A : Type 0} → Form N A → A → List ℕ → Type 0
Filling m a bs = (r : Filled m) × (value m r ≡ a) × (bytes m r ≡ bs)

-- what is said is legal, and its bytes are those that it is written with
abbrev pub Told : {A : Type 0} → (A → Type 0) → (A → List ℕ) → A → List ℕ → Type 0
Told {A} Legal write v bs = (a : A) × Legal a × (v ≡ a) × (bs ≡ write a)

-- ---- two forms, one after the other

pub viable_bind : {N A B : Type 0} (m : Form N A) (k : A → Form N B) → Viable m → ((r : Filled m) → Viable (k (value m r))) → Viable (m >>= k)
viable_bind (ret a) k q h = h tt
viable_bind (field ν κ rs next) k q h = (q.0, λ c. viable_bind (next c.0) k (q.1 c) (λ r. h (c, r)))

-- a filling of the first form and one of the second make a filling of both, one after the other
pub join : {N A B : Type 0} (m : Form N A) (k : A → Form N B) (r : Filled m) (s : Filled (k (value m r)))
    → Filling (m >>= k) (value (k (value m r)) s) (bytes m r ++ bytes (k (value m r)) s)
join (ret a) k r s = (s, refl, refl)
join (field ν κ rs next) k r s =
    let v = r.0.0 in
    let i = join (next v) k r.1 s in
    ((r.0, i.0), i.1, ap (λ (l : List ℕ). spell κ v ++ l) i.2 ∙ sym (append_assoc (spell κ v) (bytes (next v) r.1) (bytes (k (value (next v) r.1)) s)))

-- a filling of two forms, one after the other, is a filling of the first and one of the second
pub split : {N A B : Type 0} (m : Form N A) (k : A → Form N B) (t : Filled (m >>= k))
    → (r : Filled m) × (s : Filled (k (value m r))) × (value (m >>= k) t ≡ value (k (value m r)) s) × (bytes (m >>= k) t ≡ bytes m r ++ bytes (k (value m r)) s)
split (ret a) k t = (tt, t, refl, refl)
split (field ν κ rs next) k t =
    let v = t.0.0 in
    let i = split (next v) k t.1 in
    ((t.0, i.0), i.1, i.2, ap (λ (l : List ℕ). spell κ v ++ l) i.3 ∙ sym (append_assoc (spell κ v) (bytes (next v) i.0) (bytes (k (value (next v) i.0)) i.1)))

-- ---- a fork: the road taken

pub viable_fork : {N A : Type 0} (b : Bool) (m : Form N A) (k : Unit {0} → Form N A) → (T b → Viable m) → (T (not b) → Viable (k tt)) → Viable (fork b m k)
viable_fork true m k p q = p tt
viable_fork false m k p q = q tt

pub fork_no : {N A : Type 0} (b : Bool) (m : Form N A) (k : Unit {0} → Form N A) → T (not b) → (s : Filled (k tt))
    → Filling (fork b m k) (value (k tt) s) (bytes (k tt) s)
fork_no true m k t s = absurd t
fork_no false m k t s = (s, refl, refl)

pub fork_see {ℓ} : {N A : Type 0} (b : Bool) (m : Form N A) (k : Unit {0} → Form N A) (P : A → List ℕ → Type ℓ)
    → (T b → (s : Filled m) → P (value m s) (bytes m s)) → (T (not b) → (s : Filled (k tt)) → P (value (k tt) s) (bytes (k tt) s))
    → (r : Filled (fork b m k)) → P (value (fork b m k) r) (bytes (fork b m k) r)
fork_see true m k P p q r = p tt r
fork_see false m k P p q r = q tt r

-- ---- rules that speak of values alone

-- the filled forms are the legal values, written so
pub record Says {N A : Type 0} (m : Form N A) (Legal : A → Type 0) (write : A → List ℕ) : Type 0 where
  pub fill : (a : A) → Legal a → Filling m a (write a)
  pub told : (r : Filled m) → Told Legal write (value m r) (bytes m r)

-- a form whose fillings are the legal values, and then another form
module _ {N A B : Type 0} (m : Form N A) (Legal : A → Type 0) (write : A → List ℕ) (says : Says m Legal write) (k : A → Form N B) where
  pub then_fill : (a : A) → Legal a → (s : Filled (k a)) → Filling (m >>= k) (value (k a) s) (write a ++ bytes (k a) s)
  then_fill a g =
      let f = says.fill a g in
      rw (← f.2) (subst (λ (x : A). (s : Filled (k x)) → Filling (m >>= k) (value (k x) s) (bytes m f.0 ++ bytes (k x) s)) f.1
      (λ s. join m k f.0 s))

  pub then_told : (t : Filled (m >>= k)) → (a : A) × Legal a × (s : Filled (k a)) × (value (m >>= k) t ≡ value (k a) s) × (bytes (m >>= k) t ≡ write a ++ bytes (k a) s)
  then_told t =
      let p = split m k t in
      let d = says.told p.0 in
      let f : (s : Filled (k d.0)) × (value (m >>= k) t ≡ value (k d.0) s) × (bytes (m >>= k) t ≡ bytes m p.0 ++ bytes (k d.0) s)
      = subst (λ (x : A). (s : Filled (k x)) × (value (m >>= k) t ≡ value (k x) s) × (bytes (m >>= k) t ≡ bytes m p.0 ++ bytes (k x) s)) d.2 (p.1, p.2, p.3) in
      (d.0, d.1, f.0, f.1, f.2 ∙ ap (λ (l : List ℕ). l ++ bytes (k d.0) f.0) d.3)

  pub then_viable : Viable m → ((a : A) → Legal a → Viable (k a)) → Viable (m >>= k)
  then_viable q h = viable_bind m k q (λ r. let d = says.told r in subst (λ (x : A). Viable (k x)) (sym d.2) (h d.0 d.1))

-- ---- the reader's laws, of the rules

module _ {N A : Type 0} (m : Form N A) (Legal : A → Type 0) (write : A → List ℕ) (says : Says m Legal write) where
  -- a file is accepted exactly when it is a legal value written out, and that value is what was read
  pub accepted_legal : (f : List ℕ) (a : A) → run m f ≡ accepted a → Legal a × (write a ≡ f)
  accepted_legal f a e =
      let s = sound m f a e in
      let d = says.told s.0 in
      let h : d.0 ≡ a = sym d.2 ∙ s.1 in
      (subst Legal h d.1, ap write (sym h) ∙ sym d.3 ∙ s.2)

  pub legal_accepted : (f : List ℕ) (a : A) → Legal a → write a ≡ f → run m f ≡ accepted a
  legal_accepted f a l e = let r = says.fill a l in ap (run m) (sym (r.2 ∙ e)) ∙ complete m r.0 ∙ ap {B = Answer N A} accepted r.1

  -- two legal values that are written with the same bytes are the same
  pub only_one : (a b : A) → Legal a → Legal b → write a ≡ write b → a ≡ b
  only_one a b l k e = let p = legal_accepted (write b) a l e in let q = legal_accepted (write b) b k refl in cc

  -- the bytes ahead of the refused field begin a legal value written out
  pub ahead_legal : Viable m → (f : List ℕ) (r : Refusal N) → run m f ≡ refused r → (rest : List ℕ) × (a : A) × Legal a × (write a ≡ take r.place f ++ rest)
  ahead_legal q f r e = let b = ahead m q f r e in let d = says.told b.0 in (b.1, d.0, d.1, sym d.3 ∙ b.2)

  -- the bytes through the refused field begin no legal value written out
  pub through_none : (f : List ℕ) (r : Refusal N) → r.reason ≢ short → run m f ≡ refused r
      → (rest : List ℕ) (a : A) → Legal a → write a ≡ take (r.place + r.width) f ++ rest → ⊥
  through_none f r w e rest a l h = let s = says.fill a l in through m f r w e (s.0, rest, s.2 ∙ h)

  -- what is read at a place is a legal value, which stands there written out
  pub read_legal : (f : List ℕ) (p q : ℕ) (a : A) → read_at m f p ≡ done a q → Legal a × (drop p f ≡ write a ++ drop q f)
  read_legal f p q a e =
      let r = read_written m f p q a e in
      let d = says.told r.0 in
      let h : d.0 ≡ a = sym d.2 ∙ r.1 in
      (subst Legal h d.1, r.2 ∙ ap (λ (l : List ℕ). l ++ drop q f) (d.3 ∙ ap write h))

  -- a legal value that stands at a place written out is read there
  pub legal_read : (f : List ℕ) (p q : ℕ) (a : A) → p ≤ length f → q ≤ length f → Legal a → drop p f ≡ write a ++ drop q f → read_at m f p ≡ done a q
  legal_read f p q a h g l e =
      let r = says.fill a l in
      written_read m r.0 f p q h g (e ∙ ap (λ (b : List ℕ). b ++ drop q f) (sym r.2)) ∙ ap (λ (b : A). done b q) r.1

  pub whole_read : (a : A) → Legal a → read_at m (write a) 0 ≡ done a (length (write a))
  whole_read a l =
      let end = drop_of_length-le (write a) {i = length (write a)} (omega arith) in
      legal_read (write a) 0 (length (write a)) a (omega arith) (omega arith) l (rw (end, append-nil))
