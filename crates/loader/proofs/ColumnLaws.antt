-- Room in columns, and a column while rows are written into it, one after the other.
use Prim.Native.Nat.{ℕ, suc, ◌+◌, ◌≤◌, ◌<◌}
use native.Mathlib.Nat.{zero-add, add-zero}
use native.Mathlib.Numerals.{add-one}
use native.Mathlib.Omega.{arith}
use mathlib.Core.Path.{◌≡◌, refl, sym, ap, ◌∙◌}
use mathlib.Core.Bool.{true}
use mathlib.Core.List.{List, [], ◌∷◌, ◌++◌}
use lib.ListN.{length, set, length-set}
use lib.Seq.{sets, sets-eq, length-sets}
use lib.Dec.{leb, leb→le}
use Rattle.form.proofs.BoolLaws.{T_of, and_both}
use Rattle.document.specs.Values.{Payment}
use Rattle.verdict.specs.Lent.{filled}
use Rattle.loader.specs.Columns.{bank_codes, accounts, cents, starts}
use Rattle.loader.specs.Loading.{have_room}

-- four columns of at least n rows
pub record Roomy (n : ℕ) (a b c d : List ℕ) : Type 0 where
  pub c4 : n ≤ length a
  pub c5 : n ≤ length b
  pub c12 : n ≤ length c
  pub start : n ≤ length d

pub has_room : (n : ℕ) (a b c d : List ℕ) → have_room n (a ∷ b ∷ c ∷ d ∷ []) ≡ true → Roomy n a b c d
has_room n a b c d e =
    let x = and_both (leb n (length a)) _ (T_of e) in
    let y = and_both (leb n (length b)) _ x.1 in
    let z = and_both (leb n (length c)) _ y.1 in
    record {
      c4 = leb→le n (length a) x.0;
      c5 = leb→le n (length b) y.0;
      c12 = leb→le n (length c) z.0;
      start = leb→le n (length d) (and_both (leb n (length d)) _ z.1).0;
    }

-- the row i is one of the columns, as they were and as they are
pub record RowThere (c4₀ c5₀ c12₀ start₀ c4 c5 c12 start : List ℕ) (i : ℕ) : Type 0 where
  pub was : Roomy (i + 1) c4₀ c5₀ c12₀ start₀
  pub is : Roomy (i + 1) c4 c5 c12 start

-- it is one where it is among the first n, the columns had room for n, and each is as long as it was
pub row_among : {n i : ℕ} {c4₀ c5₀ c12₀ start₀ c4 c5 c12 start : List ℕ} → i < n → Roomy n c4₀ c5₀ c12₀ start₀
    → length c4 ≡ length c4₀ → length c5 ≡ length c5₀ → length c12 ≡ length c12₀ → length start ≡ length start₀
    → RowThere c4₀ c5₀ c12₀ start₀ c4 c5 c12 start i
row_among h r as_c4 as_c5 as_c12 as_start =
    record {
      was = record { c4 = omega (arith, r.c4); c5 = omega (arith, r.c5); c12 = omega (arith, r.c12); start = omega (arith, r.start) };
      is = record {
        c4 = omega (arith, r.c4, as_c4);
        c5 = omega (arith, r.c5, as_c5);
        c12 = omega (arith, r.c12, as_c12);
        start = omega (arith, r.start, as_start);
      };
    }

-- the four columns with the rows of these payments, and behind them what they held before
abbrev pub Filled : List Payment → List ℕ → List ℕ → List ℕ → List ℕ → List ℕ → List ℕ → List ℕ → List ℕ → Type 0
Filled ps c4 c5 c12 start c4' c5' c12' start' =
    (c4' ≡ filled (bank_codes ps) c4) × ((c5' ≡ filled (accounts ps) c5) × ((c12' ≡ filled (cents ps) c12) × (start' ≡ filled (starts ps) start)))

-- a column with the rows before i written: as long as it was; the rows still to come, written from i on, make of it what all rows, written from
-- the first on, make of the old column
pub record ColumnFrom (old col : List ℕ) (first i : ℕ) (left all : List ℕ) : Type 0 where
  pub long : length col ≡ length old
  pub comes : sets col i left ≡ sets old first all

pub column_from_start : (old : List ℕ) (first : ℕ) (all : List ℕ) → ColumnFrom old old first first all all
column_from_start old first all = record { long = refl; comes = refl }

-- one row more
pub column_from_more : {old col all vs : List ℕ} {first i v r : ℕ} → ColumnFrom old col first i (v ∷ vs) all → r ≡ v → ColumnFrom old (set col i r) first (i + 1) vs all
column_from_more {col = col} {i = i} {r = r} c e = record { long = length-set col i r ∙ c.long; comes = rw (e, add-one i) c.comes }

-- some rows and then others
sets_append : (a b l : List ℕ) (i : ℕ) → sets l i (a ++ b) ≡ sets (sets l i a) (i + length a) b
sets_append [] b l i = rw (add-zero i)
sets_append (x ∷ xs) b l i =
    let e : suc i + length xs ≡ i + suc (length xs) = omega arith in
    sets_append xs b (set l i x) (suc i) ∙ ap (λ n. sets (sets (set l i x) (suc i) xs) n b) e

-- several rows at once
pub column_run : {old col new all ws : List ℕ} {first i n : ℕ} (vs : List ℕ) → ColumnFrom old col first i (vs ++ ws) all → new ≡ sets col i vs → length vs ≡ n
    → ColumnFrom old new first (i + n) ws all
column_run {col = col} {ws = ws} {i = i} vs c e l =
    record { long = ap length e ∙ length-sets col i vs ∙ c.long; comes = rw (e, ← l) (sym (sets_append vs ws col i) ∙ c.comes) }

-- rows written from the first place on, where the column has room for them
pub sets_filled : (all old : List ℕ) → length all ≤ length old → sets old 0 all ≡ filled all old
sets_filled all old h = sets-eq all old 0 (omega arith) ∙ rw zero-add

-- ---- rows written from the first place on

-- a column with i rows written: as long as it was; the rows still to come, written from i on, make of it what all rows make of the old column
abbrev pub Column : List ℕ → List ℕ → ℕ → List ℕ → List ℕ → Type 0
Column old col i left all = ColumnFrom old col 0 i left all

pub column_start : (old all : List ℕ) → Column old old 0 all all
column_start old all = column_from_start old 0 all

pub column_more : {old col all vs : List ℕ} {i v r : ℕ} → Column old col i (v ∷ vs) all → r ≡ v → Column old (set col i r) (i + 1) vs all
column_more c e = column_from_more c e

pub column_end : {old col all : List ℕ} {i : ℕ} → Column old col i [] all → length all ≤ length old → col ≡ filled all old
column_end {old} {all = all} c h = c.comes ∙ sets_filled all old h
