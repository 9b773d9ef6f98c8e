-- Rows of a medium: which payment of which file a row is of, and where the bytes of files and payments stand.
-- Row i belongs to a payment of a file with i payments before it, in the files before that one and in its own (`Located`); it is found by induction
-- over the files (`located`), and its start is where all of these end. The medium is then cut there: what is ahead, the payment, and what follows.
use Prim.Native.Nat.{ℕ, zero, suc, ◌+◌}
use native.Mathlib.Omega.{arith}
use mathlib.Core.Path.{◌≡◌, refl, sym, ap, ◌∙◌}
use mathlib.Core.List.{List, [], ◌∷◌, ◌++◌, append_assoc}
use mathlib.Core.Option.{some}
use lib.ListN.{length, take, drop, get_elem?, length-append}
use lib.Seq.{take_at, drop_at}
use Rattle.document.specs.Values.{Payment, Document, totals}
use Rattle.document.specs.Rules.{All, Legal}
use Rattle.document.specs.Medium.{all_payments}
use Rattle.diskette.specs.Writing.{write_header, write_payment, write_payments, write_end, write}
use Rattle.diskette.specs.Medium.{write_medium}
use Rattle.diskette.proofs.LayoutLaws.{header_length}
use Rattle.layout.specs.Steps.{first_payment}
use Rattle.loader.specs.Columns.{starts_in}
use Rattle.loader.specs.Medium.{medium_starts, file_starts}
use Rattle.loader.proofs.FillLaws.{length_starts}
use Rattle.loader.proofs.RowLaws.{is_some, not_some, start_there, around}

-- ---- an entry of two lists, one behind the other

-- it stands in the first, or in the second
data InEither {A : Type 0} (a b : List A) (i : ℕ) (v : A) : Type 0 where
  in_first : get_elem? a i ≡ some v → InEither a b i v
  in_second : (k : ℕ) → i ≡ length a + k → get_elem? b k ≡ some v → InEither a b i v

in_either : {A : Type 0} (a b : List A) (i : ℕ) (v : A) → get_elem? (a ++ b) i ≡ some v → InEither a b i v
in_either [] b i v e = in_second i (omega arith) e
in_either (x ∷ xs) b zero v e = in_first e
in_either (x ∷ xs) b (suc i) v e = by (in_either xs b i v e)
  where
    by : InEither xs b i v → InEither (x ∷ xs) b (suc i) v
    by (in_first h) = in_first h
    by (in_second k n h) = in_second k (omega arith) h

first_there : {A : Type 0} (a b : List A) (i : ℕ) (v : A) → get_elem? a i ≡ some v → get_elem? (a ++ b) i ≡ some v
first_there [] b i v e = absurd (not_some e)
first_there (x ∷ xs) b zero v e = e
first_there (x ∷ xs) b (suc i) v e = first_there xs b i v e

second_there : {A : Type 0} (a b : List A) (k : ℕ) → get_elem? (a ++ b) (length a + k) ≡ get_elem? b k
second_there {A} [] b k = ap (get_elem? {A = A} b) (omega arith)
second_there {A} (x ∷ xs) b k =
    let n : length (x ∷ xs) + k ≡ suc (length xs + k) = omega arith in
    ap (get_elem? {A = A} ((x ∷ xs) ++ b)) n ∙ second_there xs b k

-- ---- a row

-- row i is of payment `within` of file `file`, which is d: so many payments are before it, in the files before and in its own
pub record Located (ds : List Document) (i : ℕ) (p : Payment) : Type 0 where
  pub file : ℕ
  pub within : ℕ
  pub says : Document
  pub file_is : get_elem? ds file ≡ some says
  pub payment_is : get_elem? says.payments within ≡ some p
  pub before : i ≡ length (all_payments (take file ds)) + within

-- where it stands: behind the files before, its own A, and the payments before it there
abbrev pub ahead_of : {ds : List Document} {i : ℕ} {p : Payment} → Located ds i p → List ℕ
ahead_of {ds} l = write_medium (take l.file ds) ++ (write_header l.says.header ++ write_payments (take l.within l.says.payments))

pub located : (q : ℕ) (ds : List Document) → All Legal ds → (i : ℕ) (p : Payment) → get_elem? (all_payments ds) i ≡ some p
    → (l : Located ds i p) × (get_elem? (medium_starts q ds) i ≡ some (q + length (ahead_of l)))
located q [] legal i p e = absurd (not_some e)
located q (d ∷ ds) legal i p e = by (in_either d.payments (all_payments ds) i p e) (λ k h. located (q + length (write d)) ds legal.1 k p h)
  where
    rest : List ℕ
    rest = medium_starts (q + length (write d)) ds

    by : InEither d.payments (all_payments ds) i p
        → ((k : ℕ) → get_elem? (all_payments ds) k ≡ some p
        → (l : Located ds k p) × (get_elem? (medium_starts (q + length (write d)) ds) k ≡ some (q + length (write d) + length (ahead_of l))))
        → (l : Located (d ∷ ds) i p) × (get_elem? (medium_starts q (d ∷ ds)) i ≡ some (q + length (ahead_of l)))
    by (in_first h) further =
        let a = write_header d.header in
        let c = write_payments (take i d.payments) in
        let place : q + first_payment + length c ≡ q + length (a ++ c) = omega (arith, length-append a c, header_length d.header legal.0.header) in
        let start = start_there p (q + first_payment) d.payments i h in (
          record { file = 0; within = i; says = d; file_is = refl; payment_is = h; before = omega arith },
          first_there (starts_in q d.payments) (medium_starts (q + length (write d)) ds) i _ start ∙ ap (λ (n : ℕ). some n) place,
        )
    by (in_second k n h) further =
        let r = further k h in
        let l = r.0 in
        let later : Located (d ∷ ds) i p
        = record {
          file = suc l.file;
          within = l.within;
          says = l.says;
          file_is = l.file_is;
          payment_is = l.payment_is;
          before = omega (arith, l.before, n, length-append d.payments (all_payments (take l.file ds)));
        } in
        let row : i ≡ length (starts_in q d.payments) + k = n ∙ ap (λ m. m + k) (sym (length_starts (q + first_payment) d.payments)) in
        let place : q + length (write d) + length (ahead_of l) ≡ q + length (ahead_of later)
        = omega (arith, ap length (append_assoc (write d) (write_medium (take l.file ds)) (write_header l.says.header ++ write_payments (take l.within l.says.payments))), length-append (write d) (ahead_of l)) in (
          later,
          ap (λ m. get_elem? (medium_starts q (d ∷ ds)) m) row ∙ second_there (starts_in q d.payments) (medium_starts (q + length (write d)) ds) k ∙ r.1
              ∙ ap (λ (n : ℕ). some n) place,
        )

-- ---- a row of the table

-- file j begins behind the files before it
pub file_start_there : (q : ℕ) (ds : List Document) (j : ℕ) (d : Document) → get_elem? ds j ≡ some d
    → get_elem? (file_starts q ds) j ≡ some (q + length (write_medium (take j ds)))
file_start_there q [] j d e = absurd (not_some e)
file_start_there q (x ∷ xs) zero d e = ap (λ (n : ℕ). some n) (omega arith)
file_start_there q (x ∷ xs) (suc j) d e =
    file_start_there (q + length (write x)) xs j d e
    ∙ ap (λ (n : ℕ). some n) (omega (arith, length-append (write x) (write_medium (take j xs))))

-- ---- bytes

-- the files before file j, file j, and those behind it
pub around_file : (ds : List Document) (j : ℕ) (d : Document) → get_elem? ds j ≡ some d
    → write_medium ds ≡ write_medium (take j ds) ++ (write d ++ write_medium (drop (suc j) ds))
around_file [] j d e = absurd (not_some e)
around_file (x ∷ xs) zero d e = ap (λ y. write y ++ write_medium xs) (is_some e)
around_file (x ∷ xs) (suc j) d e =
    ap (λ bs. write x ++ bs) (around_file xs j d e)
    ∙ sym (append_assoc (write x) (write_medium (take j xs)) (write d ++ write_medium (drop (suc j) xs)))

-- bytes cut where the front ends
pub cut : (front w rest f : List ℕ) → front ++ (w ++ rest) ≡ f → (n : ℕ) → n ≡ length front → (take n f ≡ front) × (take (length w) (drop n f) ≡ w)
cut front w rest f is n l =
    rw (← is) (take_at front (w ++ rest) n (sym l), ap (take (length w)) (drop_at front (w ++ rest) n (sym l)) ∙ take_at w rest (length w) refl)

-- the bytes of a row's payment stand behind what is ahead of it
pub around_row : {ds : List Document} {i : ℕ} {p : Payment} (l : Located ds i p) → (rest : List ℕ) × (ahead_of l ++ (write_payment p ++ rest) ≡ write_medium ds)
around_row {ds} {i} {p} l =
    let d = l.says in
    let a = write_header d.header in
    let c = write_payments (take l.within d.payments) in
    let w = write_payment p in
    let b = write_payments (drop (suc l.within) d.payments) in
    let e = write_end (totals d.payments) ++ [] in
    let files = write_medium (take l.file ds) in
    let others = write_medium (drop (suc l.file) ds) in
    let own : write d ≡ (a ++ c) ++ (w ++ (b ++ e))
    = ap (λ r. a ++ (r ++ e)) (around p d.payments l.within l.payment_is)
    ∙ ap (λ r. a ++ r) (append_assoc c (w ++ b) e ∙ ap (λ r. c ++ r) (append_assoc w b e)) ∙ sym (append_assoc a c (w ++ (b ++ e))) in (
      b ++ e ++ others,
      append_assoc files (a ++ c) (w ++ (b ++ e ++ others))
          ∙ ap (λ r. files ++ r)
          (ap (λ r. (a ++ c) ++ r) (sym (append_assoc w (b ++ e) others)) ∙ sym (append_assoc (a ++ c) (w ++ (b ++ e)) others) ∙ ap (λ r. r ++ others) (sym own))
          ∙ sym (around_file ds l.file d l.file_is),
    )
