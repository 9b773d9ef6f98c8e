-- The fields of E and the first field after A or a C: which figures E can hold, and when E or a C may begin.
use Prim.Native.Nat.{ℕ, ◌+◌, ◌-◌, ◌*◌, ◌%◌, ◌^◌, ◌≤◌, ◌<◌}
use native.Mathlib.Omega.{arith}
use mathlib.Core.Path.{◌≡◌, refl}
use mathlib.Core.Bool.{Bool, true, false, ◌&&◌, ◌||◌}
use mathlib.Core.List.{[]}
use lib.Dec.{T, leb, ltb, eqb, leb→le, ltb→lt, le→leb, lt→ltb, eqb→eq, eqb_refl}
use borrow.Author.Tests.{ne_eqb}
use Rattle.form.specs.Form.{Holds, Filled, value, bytes}
use Rattle.form.proofs.BoolLaws.{and_of, or_left, or_first, or_other}
use Rattle.form.proofs.RulesLaws.{◌▸◌, ok, Filling}
use Rattle.document.specs.Values.{Totals}
use Rattle.document.specs.Rules.{most_payments, most_cents, sum_limit}
use Rattle.document.proofs.SumLaws.{count_fits, cents_fit}
use Rattle.diskette.specs.Writing.{length_of, write_figures}
use Rattle.diskette.specs.Fields.{end, is_length, first_field}

-- ---- E

-- totals that E can hold
pub record Within (t : Totals) : Type 0 where
  pub accounts : t.accounts < sum_limit
  pub bank_codes : t.bank_codes < sum_limit
  pub cents : t.cents ≤ most_cents

pub end_fill : (t : Totals) → t.count ≤ most_payments → Within t → Filling (end t) [] (write_figures t)
end_fill t h w = (
  ok
      ▸ ok
      ▸ (t.count, lt→ltb t.count (10 ^ 7) (count_fits t.count h), (eqb_refl t.count, tt))
      ▸ ok
      ▸ (t.accounts, lt→ltb t.accounts (10 ^ 17) w.accounts, (eqb_refl t.accounts, tt))
      ▸ (t.bank_codes, lt→ltb t.bank_codes (10 ^ 17) w.bank_codes, (eqb_refl t.bank_codes, tt))
      ▸ (t.cents, lt→ltb t.cents (10 ^ 13) (cents_fit t.cents w.cents), (eqb_refl t.cents, tt))
      ▸ ok
      ▸ tt,
  refl,
  refl,
)

pub end_told : (t : Totals) (r : Filled (end t)) → (value (end t) r ≡ []) × (bytes (end t) r ≡ write_figures t)
end_told t r =
    let count = r.1.1 in
    let accounts = count.1.1 in
    let bank_codes = accounts.1 in
    let cents = bank_codes.1 in (
      refl,
      rw (
        eqb→eq count.0.0 t.count count.0.2.0,
        eqb→eq accounts.0.0 t.accounts accounts.0.2.0,
        eqb→eq bank_codes.0.0 t.bank_codes bank_codes.0.2.0,
        eqb→eq cents.0.0 t.cents cents.0.2.0,
      ),
    )

-- ---- the first field after A or a C

pub length_is : (k : ℕ) → k ≤ 15 → T (is_length (length_of k))
length_is k h =
    and_of (leb 187 (length_of k) && leb (length_of k) 622) (eqb ((length_of k - 187) % 29) 0)
    (and_of (leb 187 (length_of k)) (leb (length_of k) 622) (omega (arith, le→leb)) (omega (arith, le→leb))) (rw (whole k) tt)
  where
    whole : (k : ℕ) → (187 + 29 * k - 187) % 29 ≡ 0
    whole k = omega arith

-- E may begin after at least one C
pub end_begins : (t : Totals) → 1 ≤ t.count → Holds (first_field t 128)
end_begins t h = (or_left (leb 1 t.count) false (le→leb 1 t.count h), (tt, (tt, tt)))

-- a C may begin as long as neither limit is reached
pub payment_begins : (t : Totals) (k : ℕ) → k ≤ 15 → t.count < most_payments → t.cents < most_cents → Holds (first_field t (length_of k))
payment_begins t k h n c =
    rw (ne_eqb (length_of k) 128 (omega arith)) (length_is k h, (omega (arith, lt→ltb), (omega (arith, lt→ltb), tt)))

pub end_some : (t : Totals) (l : ℕ) → l ≡ 128 → Holds (first_field t l) → 1 ≤ t.count
end_some t l e h = leb→le 1 t.count (or_first (leb 1 t.count) (rw e at h.0))

-- a C may begin only below the most payments there are
pub may_begin : (t : Totals) (l : ℕ) → (l ≡ 128 → ⊥) → Holds (first_field t l) → t.count < most_payments
may_begin t l n h =
    ltb→lt t.count most_payments (or_other (eqb l 128) (ltb t.count most_payments) (rw (ne_eqb l 128 n) tt) h.1.0)

-- after the most payments there are, only E may begin
pub must_end : (t : Totals) (l : ℕ) → most_payments ≤ t.count → Holds (first_field t l) → l ≡ 128
must_end t l m h = by (ltb t.count most_payments) (λ b. omega (arith, m, ltb→lt t.count most_payments b)) h.1.0
  where
    by : (b : Bool) → (T b → ⊥) → T (eqb l 128 || b) → l ≡ 128
    by true n t = absurd (n tt)
    by false n t = eqb→eq l 128 (or_first (eqb l 128) t)
