-- The two loops over the payments of an accepted file: what they keep, and what they have found when they end.
use Prim.Native.Nat.{ℕ, suc, ◌+◌, ◌≤◌, ◌<◌}
use native.Mathlib.Nat.{zero-add}
use native.Mathlib.Omega.{arith}
use mathlib.Core.Path.{◌≡◌, refl, sym, ap, ◌∙◌}
use mathlib.Core.Bool.{true, false}
use mathlib.Core.List.{List}
use mathlib.Core.Option.{some}
use lib.ListN.{length, get_elem?}
use Rattle.document.specs.Values.{Payment}
use Rattle.diskette.specs.Answer.{answer, payments_of}
use Rattle.layout.specs.Steps.{first_payment}
use Rattle.layout.proofs.StepLaws.{Keeping, Passing, Onward, next, none_left}
use Rattle.loader.specs.Columns.{starts_from, starts}
use Rattle.finder.specs.Texts.{begun_from, begun_at}
use Rattle.finder.specs.Seeking.{found}
use Rattle.finder.proofs.BegunLaws.{begun_first, begun_later}

-- ---- the start of payment n

-- the starts still to come are those of the rows from here on
abbrev pub Ahead : List ℕ → Keeping
Ahead all row p left = (i : ℕ) → get_elem? all (row + i) ≡ get_elem? (starts_from p left) i

pub ahead_first : (ps : List Payment) → Ahead (starts ps) 0 first_payment ps
ahead_first ps i = ap (get_elem? (starts ps)) (zero-add i)

pub ahead_on : (f all : List ℕ) (row p : ℕ) → Onward f row p (Ahead all)
ahead_on f all row p x xs b k i = let e : row + 1 + i ≡ row + suc i = omega arith in ap (get_elem? all) e ∙ k (suc i)

module _ {f : List ℕ} {row p n : ℕ} (w : Passing f (Ahead (starts (payments_of (answer f)))) row p) where
  pub start_found : row ≤ n → n ≤ row → n < length (payments_of (answer f)) → get_elem? (starts (payments_of (answer f))) n ≡ some p
  start_found a b h = let i : n ≡ row + 0 = omega arith in ap (get_elem? (starts (payments_of (answer f)))) i ∙ (next w (omega arith)).kept 0

-- ---- the payment that begins at a start

-- the payment that begins at the start, if one does, is one of those still to come
abbrev pub Sought : ℕ → List Payment → Keeping
Sought start all row p left = begun_at start all ≡ begun_from start p left

pub sought_first : (start : ℕ) (all : List Payment) → Sought start all 0 first_payment all
unfolding begun_at
sought_first start all = refl

pub sought_on : (f : List ℕ) (start : ℕ) (all : List Payment) (row p : ℕ) → (p ≡ start → ⊥) → Onward f row p (Sought start all)
sought_on f start all row p n x xs b k = k ∙ begun_later start p x xs n

module _ {f : List ℕ} {start row p : ℕ} (w : Passing f (Sought start (payments_of (answer f))) row p) where
  pub begun_here : row < length (payments_of (answer f)) → p ≡ start → true ≡ found (begun_at start (payments_of (answer f)))
  begun_here h e = let x = next w h in sym (ap found (x.kept ∙ begun_first start p x.payment x.others e))

pub none_begun : {f : List ℕ} (start : ℕ) {row p : ℕ} → Passing f (Sought start (payments_of (answer f))) row p → length (payments_of (answer f)) ≤ row
    → false ≡ found (begun_at start (payments_of (answer f)))
none_begun start {p = p} w h = sym (ap found (w.kept ∙ ap (begun_from start p) (none_left w h)))
