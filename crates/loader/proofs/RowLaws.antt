-- Row i of a filled column, and where the bytes of payment i stand.
use Prim.Native.Nat.{ℕ, zero, suc, ◌+◌}
use native.Mathlib.Nat.{add-zero, add_assoc}
use mathlib.Core.Path.{◌≡◌, refl, sym, ap, ◌∙◌}
use mathlib.Core.List.{List, [], ◌∷◌, ◌++◌, map, append_assoc}
use mathlib.Core.Option.{Option, none, some}
use lib.ListN.{length, take, drop, get_or, get_elem?, length-append}
use lib.Seq.{take_at, drop_at}
use Rattle.document.specs.Values.{Payment, Document, totals}
use Rattle.diskette.specs.Writing.{write_header, write_payment, write_payments, write_end, write}
use Rattle.loader.specs.Columns.{starts_from}

pub is_some : {A : Type 0} {x y : A} → ◌≡◌ {A = Option A} (some x) (some y) → x ≡ y
is_some e = cc

pub not_some : {A : Type 0} {x : A} → ◌≡◌ {A = Option A} none (some x) → ⊥
not_some e = absurd cc

-- an element of a list stands there too where more follows
pub in_front : (l rest : List ℕ) (i : ℕ) {v : ℕ} → get_elem? l i ≡ some v → get_or (l ++ rest) i 0 ≡ v
in_front [] rest i e = absurd (not_some e)
in_front (x ∷ xs) rest zero e = is_some e
in_front (x ∷ xs) rest (suc i) e = in_front xs rest i e

-- where entry i is v, row i is its number
pub row_of : {A : Type 0} (v : A) (g : A → ℕ) (l : List A) (i : ℕ) (rest : List ℕ) → get_elem? l i ≡ some v → get_or (map g l ++ rest) i 0 ≡ g v
row_of v g [] i rest e = absurd (not_some e)
row_of v g (x ∷ xs) zero rest e = ap g (is_some e)
row_of v g (x ∷ xs) (suc i) rest e = row_of v g xs i rest e

-- payment i is p
module _ (p : Payment) where
  -- payment i begins behind the payments before it
  pub start_there : (q : ℕ) (ps : List Payment) (i : ℕ) → get_elem? ps i ≡ some p → get_elem? (starts_from q ps) i ≡ some (q + length (write_payments (take i ps)))
  start_there q [] i e = absurd (not_some e)
  start_there q (x ∷ xs) zero e = ap (λ (n : ℕ). some n) (sym (add-zero q))
  start_there q (x ∷ xs) (suc i) e =
      let before = write_payments (take i xs) in
      start_there (q + length (write_payment x)) xs i e
      ∙ ap (λ (n : ℕ). some n) (add_assoc q (length (write_payment x)) (length before) ∙ ap (λ n. q + n) (sym (length-append (write_payment x) before)))

  pub start_of : (q : ℕ) (ps : List Payment) (i : ℕ) (rest : List ℕ) → get_elem? ps i ≡ some p
      → get_or (starts_from q ps ++ rest) i 0 ≡ q + length (write_payments (take i ps))
  start_of q ps i rest e = in_front (starts_from q ps) rest i (start_there q ps i e)

  -- the payments before payment i, payment i, and the payments behind it
  pub around : (ps : List Payment) (i : ℕ) → get_elem? ps i ≡ some p
      → write_payments ps ≡ write_payments (take i ps) ++ (write_payment p ++ write_payments (drop (suc i) ps))
  around [] i e = absurd (not_some e)
  around (x ∷ xs) zero e = ap (λ y. write_payment y ++ write_payments xs) (is_some e)
  around (x ∷ xs) (suc i) e =
      ap (λ bs. write_payment x ++ bs) (around xs i e)
      ∙ sym (append_assoc (write_payment x) (write_payments (take i xs)) (write_payment p ++ write_payments (drop (suc i) xs)))

-- bytes cut where the front ends
cut : (h a w b e f : List ℕ) → h ++ (a ++ (w ++ b) ++ e) ≡ f → (n : ℕ) → length (h ++ a) ≡ n → (take n f ≡ h ++ a) × (take (length w) (drop n f) ≡ w)
cut h a w b e f is n l =
    let seam : h ++ a ++ (w ++ (b ++ e)) ≡ f
    = append_assoc h a (w ++ (b ++ e)) ∙ ap (λ r. h ++ (a ++ r)) (sym (append_assoc w b e)) ∙ ap (λ r. h ++ r) (sym (append_assoc a (w ++ b) e)) ∙ is in
    rw (← seam) (take_at (h ++ a) (w ++ (b ++ e)) n l, ap (take (length w)) (drop_at (h ++ a) (w ++ (b ++ e)) n l) ∙ take_at w (b ++ e) (length w) refl)

-- in a file payment i begins where A and the payments before it end, and its bytes stand there
pub stands_at : (d : Document) (f : List ℕ) → write d ≡ f → (i : ℕ) (p : Payment) → get_elem? d.payments i ≡ some p → (n : ℕ)
    → n ≡ length (write_header d.header) + length (write_payments (take i d.payments))
    → (take n f ≡ write_header d.header ++ write_payments (take i d.payments)) × (take (length (write_payment p)) (drop n f) ≡ write_payment p)
stands_at d f is i p e n l =
    let h = write_header d.header in
    let a = write_payments (take i d.payments) in
    cut h a (write_payment p) (write_payments (drop (suc i) d.payments)) (write_end (totals d.payments) ++ []) f
    (ap (λ r. h ++ (r ++ (write_end (totals d.payments) ++ []))) (sym (around p d.payments i e)) ∙ is) n (length-append h a ∙ sym l)
