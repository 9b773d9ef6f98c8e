-- One turn of the loop that fills the columns: a row of the next payment, and on to the one behind it.
use Prim.Native.Nat.{ℕ, suc, ◌+◌, ◌*◌, ◌≤◌, ◌<◌, min}
use mathlib.Core.Path.{◌≡◌, refl, ap, ◌∙◌}
use mathlib.Core.Bool.{true}
use mathlib.Core.List.{List, [], ◌∷◌}
use lib.ListN.{length, take, drop, set, length-map}
use Rattle.form.specs.Reader.{number}
use Rattle.document.specs.Values.{Payment}
use Rattle.document.specs.Marks.{most_parts}
use Rattle.diskette.specs.Writing.{section, write_payment}
use Rattle.diskette.specs.Answer.{answer, payments_of}
use Rattle.layout.specs.Places as place
use Rattle.layout.specs.Widths as width
use Rattle.layout.specs.Steps.{first_payment, parts_at}
use Rattle.layout.proofs.PaymentLaws.{Row, row}
use Rattle.layout.proofs.StepLaws.{Passing, pass_start, next, none_left, pass_to}
use Rattle.loader.specs.Columns.{bank_codes, accounts, cents, starts_from, starts}
use Rattle.loader.specs.Loading.{have_room}
use Rattle.loader.proofs.ColumnLaws.{Roomy, has_room, RowThere, row_among, Filled, Column, column_start, column_more, column_end}

pub length_starts : (p : ℕ) (ps : List Payment) → length (starts_from p ps) ≡ length ps
length_starts p [] = refl
length_starts p (x ∷ xs) = ap suc (length_starts (p + length (write_payment x)) xs)

-- the four columns while they are filled: `i` rows of all payments are written, those of the payments from p on are still to come
pub record Rows (all : List Payment) (c4₀ c5₀ c12₀ start₀ c4 c5 c12 start : List ℕ) (i p : ℕ) (left : List Payment) : Type 0 where
  pub bank_codes_left : Column c4₀ c4 i (bank_codes left) (bank_codes all)
  pub accounts_left : Column c5₀ c5 i (accounts left) (accounts all)
  pub cents_left : Column c12₀ c12 i (cents left) (cents all)
  pub starts_left : Column start₀ start i (starts_from p left) (starts all)

-- i rows are written, and the payment of the next row stands at p
abbrev pub Filling : (f c4₀ c5₀ c12₀ start₀ c4 c5 c12 start : List ℕ) (i p : ℕ) → Type 0
Filling f c4₀ c5₀ c12₀ start₀ c4 c5 c12 start i p = Passing f (Rows (payments_of (answer f)) c4₀ c5₀ c12₀ start₀ c4 c5 c12 start) i p

pub fill_start : (f c4 c5 c12 start : List ℕ) → Filling f c4 c5 c12 start c4 c5 c12 start 0 first_payment
fill_start f c4 c5 c12 start =
    let all = payments_of (answer f) in
    pass_start f (Rows all c4 c5 c12 start c4 c5 c12 start)
    (record {
      bank_codes_left = column_start c4 (bank_codes all);
      accounts_left = column_start c5 (accounts all);
      cents_left = column_start c12 (cents all);
      starts_left = column_start start (starts all);
    })

module _ {f c4₀ c5₀ c12₀ start₀ c4 c5 c12 start : List ℕ} {i p : ℕ} (w : Filling f c4₀ c5₀ c12₀ start₀ c4 c5 c12 start i p) where
  abbrev all : List Payment
  all = payments_of (answer f)

  -- the numbers of the next payment stand in their fields
  pub here : (h : i < length all) → Row f p (next w h).payment
  here h = row (next w h).begun

  -- its row is one of the columns
  pub row_there : {n : ℕ} → i < n → have_room n (c4₀ ∷ c5₀ ∷ c12₀ ∷ start₀ ∷ []) ≡ true → RowThere c4₀ c5₀ c12₀ start₀ c4 c5 c12 start i
  row_there {n} h room =
      let k = w.kept in
      row_among h (has_room n _ _ _ _ room) k.bank_codes_left.long k.accounts_left.long k.cents_left.long k.starts_left.long

  -- one turn: the numbers of the next payment go each into its column, and the place goes on by the bytes that the number of its parts tells
  pub fill_more : i < length all → {bank account amount k step : ℕ}
      → bank ≡ number (take width.C4 (drop (p + place.C4) f)) → account ≡ number (take width.C5 (drop (p + place.C5) f))
      → amount ≡ number (take width.C12 (drop (p + place.C12) f)) → k ≡ parts_at f p → step ≡ 128 * section (min k most_parts)
      → Filling f c4₀ c5₀ c12₀ start₀ (set c4 i bank) (set c5 i account) (set c12 i amount) (set start i p) (i + 1) (p + step)
  fill_more h b a m told s =
      pass_to w h told s (λ x xs begun kept. let r = row begun in record {
        bank_codes_left = column_more kept.bank_codes_left (b ∙ r.bank_code.value);
        accounts_left = column_more kept.accounts_left (a ∙ r.account.value);
        cents_left = column_more kept.cents_left (m ∙ r.cents.value);
        starts_left = column_more kept.starts_left refl;
      })

  -- behind the last row the four columns are filled
  pub fill_ends : length all ≤ i → Roomy (length all) c4₀ c5₀ c12₀ start₀ → Filled all c4₀ c5₀ c12₀ start₀ c4 c5 c12 start
  fill_ends h l =
      let none = none_left w h in
      let kept = w.kept in (
        column_end (rw none at kept.bank_codes_left) (rw (length-map all (λ (x : Payment). x.bank_code)) l.c4),
        (
          column_end (rw none at kept.accounts_left) (rw (length-map all (λ (x : Payment). x.account)) l.c5),
          (
            column_end (rw none at kept.cents_left) (rw (length-map all (λ (x : Payment). x.cents)) l.c12),
            column_end (rw none at kept.starts_left) (rw (length_starts first_payment all) l.start),
          ),
        ),
      )
