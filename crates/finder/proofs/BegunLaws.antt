-- Payments that stand in a file one after another: where each begins, which begins at a start, and which texts it has.
-- The laws of starts go by induction over the payments, the place moving on by the bytes of the first. Since no payment is empty (`some_bytes`),
-- a later one begins at a later byte: so at the start of payment i payment i begins and no other (`begun_at_start`, `start_begun`), and its
-- bytes stand there (`begun_there`). Whether a payment has a text is told by the number of its parts (`text_told`).
use Prim.Native.Nat.{ℕ, zero, suc, ◌+◌, ◌≤◌, ◌<◌}
use native.Mathlib.Omega.{arith}
use mathlib.Core.Path.{◌≡◌, refl, sym, ap, subst, ◌∙◌}
use mathlib.Core.Bool.{Bool, true, false, ◌&&◌, cond}
use mathlib.Core.List.{List, [], ◌∷◌}
use mathlib.Core.Option.{Option, none, some, some-injective, none-ne-some}
use lib.ListN.{length, get_elem?}
use lib.Dec.{T, leb, eqb}
use borrow.Author.Tests.{eqb-true, eqb-false, eq-eqb, ne_eqb, le-leb, leb-true, leb-false}
use Rattle.document.specs.Values.{Part, Payment}
use Rattle.diskette.specs.Writing.{write_payment}
use Rattle.diskette.specs.Answer.{answer, payments_of}
use Rattle.layout.specs.Steps.{first_payment}
use Rattle.layout.proofs.CellLaws.{beyond}
use Rattle.layout.proofs.PaymentLaws.{Begun}
use Rattle.layout.proofs.StepLaws.{Coming, payments_coming, some_bytes, first_begun, others_coming, first_ends}
use Rattle.loader.specs.Columns.{starts_from}
use Rattle.finder.specs.declared.Wanted.{Wanted}
use Rattle.finder.specs.declared.Wanted.TheVariants.{C14a, C15, C16, Part as PartText}
use Rattle.finder.specs.Texts.{words_of, text_of, begun_from, begun_at}
use Rattle.finder.specs.Seeking.{found, has_text}

-- ---- starts

-- each start lies within the file
pub start_inside : (f : List ℕ) (p : ℕ) (ps : List Payment) → Coming f p ps → (i q : ℕ) → get_elem? (starts_from p ps) i ≡ some q → q ≤ length f
start_inside f p [] c i q e = absurd (none-ne-some q e)
start_inside f p (x ∷ xs) c zero q e = omega (arith, some-injective p q e, first_ends c)
start_inside f p (x ∷ xs) c (suc i) q e = start_inside f (p + length (write_payment x)) xs (others_coming c) i q e

-- no start lies ahead of the first
start_behind : (p : ℕ) (ps : List Payment) (i q : ℕ) → get_elem? (starts_from p ps) i ≡ some q → p ≤ q
start_behind p [] i q e = absurd (none-ne-some q e)
start_behind p (x ∷ xs) zero q e = omega (arith, some-injective p q e)
start_behind p (x ∷ xs) (suc i) q e = omega (arith, start_behind (p + length (write_payment x)) xs i q e)

-- ---- the payment that begins at a start

module _ (start p : ℕ) (x : Payment) (xs : List Payment) where
  pub begun_first : p ≡ start → begun_from start p (x ∷ xs) ≡ some x
  begun_first e = ap (λ b. cond b (some x) (begun_from start (p + length (write_payment x)) xs)) (eq-eqb p start e)

  pub begun_later : (p ≡ start → ⊥) → begun_from start p (x ∷ xs) ≡ begun_from start (p + length (write_payment x)) xs
  begun_later n = ap (λ b. cond b (some x) (begun_from start (p + length (write_payment x)) xs)) (ne_eqb p start n)

-- the payment that begins at the start of payment i is payment i
pub begun_at_start : (p : ℕ) (ps : List Payment) (i q : ℕ) (x : Payment) → get_elem? (starts_from p ps) i ≡ some q → get_elem? ps i ≡ some x
    → begun_from q p ps ≡ some x
begun_at_start p [] i q x s e = absurd (none-ne-some x e)
begun_at_start p (y ∷ ys) zero q x s e = begun_first q p y ys (some-injective p q s) ∙ e
begun_at_start p (y ∷ ys) (suc i) q x s e =
    let next = p + length (write_payment y) in
    begun_later q p y ys (λ h. omega (arith, h, some_bytes y, start_behind next ys i q s)) ∙ begun_at_start next ys i q x s e

-- the payment that begins at q is payment i for an i whose start is q
pub start_begun : (p : ℕ) (ps : List Payment) (q : ℕ) (x : Payment) → begun_from q p ps ≡ some x
    → (i : ℕ) × (get_elem? (starts_from p ps) i ≡ some q) × (get_elem? ps i ≡ some x)
start_begun p [] q x e = absurd (none-ne-some x e)
start_begun p (y ∷ ys) q x e = by (eqb p q) refl (start_begun (p + length (write_payment y)) ys q x)
  where
    by : (b : Bool) → eqb p q ≡ b
        → (begun_from q (p + length (write_payment y)) ys ≡ some x → (i : ℕ) × (get_elem? (starts_from (p + length (write_payment y)) ys) i ≡ some q) × (get_elem? ys i ≡ some x))
        → (i : ℕ) × (get_elem? (starts_from p (y ∷ ys)) i ≡ some q) × (get_elem? (y ∷ ys) i ≡ some x)
    by true h others = let here = eqb-true p q h in (0, ap (λ (n : ℕ). some n) here, sym (begun_first q p y ys here) ∙ e)
    by false h others = let o = others (sym (begun_later q p y ys (eqb-false p q h)) ∙ e) in (suc o.0, o.1, o.2)

-- at a place that is no payment's start no payment begins
pub none_at : (p : ℕ) (ps : List Payment) (q : ℕ) → ((i : ℕ) → get_elem? (starts_from p ps) i ≡ some q → ⊥) → begun_from q p ps ≡ none
none_at p [] q n = refl
none_at p (x ∷ xs) q n =
    begun_later q p x xs (λ e. n 0 (ap (λ (a : ℕ). some a) e)) ∙ none_at (p + length (write_payment x)) xs q (λ i. n (suc i))

-- the payment that begins at a start stands there
begun_stands : (f : List ℕ) (p : ℕ) (ps : List Payment) → Coming f p ps → (start : ℕ) (x : Payment) → begun_from start p ps ≡ some x → Begun f start x
begun_stands f p [] c start x e = absurd (none-ne-some x e)
begun_stands f p (y ∷ ys) c start x e = by (eqb p start) refl (begun_stands f (p + length (write_payment y)) ys (others_coming c) start x)
  where
    by : (b : Bool) → eqb p start ≡ b → (begun_from start (p + length (write_payment y)) ys ≡ some x → Begun f start x) → Begun f start x
    by true h others =
        let here = eqb-true p start h in
        let same = some-injective y x (sym (begun_first start p y ys here) ∙ e) in
        subst (λ z. Begun f start z) same (subst (λ q. Begun f q y) here (first_begun c))
    by false h others = others (sym (begun_later start p y ys (eqb-false p start h)) ∙ e)

pub begun_there : (f : List ℕ) (start : ℕ) (x : Payment) → begun_at start (payments_of (answer f)) ≡ some x → Begun f start x
unfolding begun_at
begun_there f start x e = begun_stands f first_payment (payments_of (answer f)) (payments_coming f) start x e

-- ---- found or not

pub found_some : {A : Type 0} (o : Option A) → found o ≡ true → (a : A) × (o ≡ some a)
found_some none e = absurd (subst T (sym e) tt)
found_some (some a) e = (a, refl)

pub found_none : {A : Type 0} (o : Option A) → found o ≡ false → o ≡ none
found_none none e = refl
found_none (some a) e = absurd (subst T e tt)

-- ---- the texts of a payment

part_had : (i : ℕ) (qs : List Part) → i < length qs → found (words_of (get_elem? qs i)) ≡ true
part_had i [] h = absurd (omega arith)
part_had zero (q ∷ qs) h = refl
part_had (suc i) (q ∷ qs) h = part_had i qs (omega arith)

part_told : (i : ℕ) (qs : List Part) → found (words_of (get_elem? qs i)) ≡ leb (suc i) (length qs)
part_told i qs = by (leb (suc i) (length qs)) refl
  where
    by : (b : Bool) → leb (suc i) (length qs) ≡ b → found (words_of (get_elem? qs i)) ≡ b
    by true e = part_had i qs (omega (arith, leb-true (suc i) (length qs) e))
    by false e = ap (λ o. found (words_of o)) (beyond qs i (omega (arith, leb-false (suc i) (length qs) e)))

-- a text is had as the number of parts tells
pub text_told : (w : Wanted) (x : Payment) → found (text_of w x) ≡ has_text w (length x.parts)
text_told C14a x = refl
text_told C15 x = refl
text_told C16 x = refl
text_told (PartText zero) x = refl
text_told (PartText (suc i)) x = part_told i x.parts ∙ ap (λ b. b && leb (suc i) (length x.parts)) (sym (le-leb 1 (suc i) (omega arith)))
