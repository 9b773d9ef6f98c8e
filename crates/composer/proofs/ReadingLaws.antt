-- The lines of payments as the loop over them goes: where it stands, what it owes, and how a line takes it on or ends it.
-- The loop keeps `Reading`: what is to be told of all lines is what is owed of the lines from p on, after the payments so far. One line unfolds
-- composing once (`stepped`). Where it tells a payment, the payment's sums and bytes pass from what is owed to what is had (`told_more`,
-- `reading_more`); where it is refused, its refusal is that of the whole (`reading_refused`). A payment is told only where fewer than 9,999,999
-- came before it (`one_more`, by `payment_heard`): so the loop ends, and count and bytes stay small.
use Prim.Native.Nat.{ℕ, ◌+◌, ◌*◌, ◌≤◌, ◌<◌}
use native.Mathlib.Omega.{arith}
use native.Mathlib.Nat.{add_assoc, add-zero}
use mathlib.Core.Path.{◌≡◌, refl, sym, ap, ap₂, ◌∙◌, subst}
use mathlib.Core.Logic.{◌≢◌}
use mathlib.Core.List.{List, [], ◌∷◌}
use Rattle.std.specs.Prelude.{Ok, Err}
use lib.ListN.{length, drop, length-append, length-drop, drop_of_length-le}
use lib.Dec.{leb}
use borrow.Author.Tests.{le-leb}
use Rattle.verdict.specs.declared.Verdict.{Verdict}
use Rattle.verdict.specs.Verdicts.{refusing}
use Rattle.document.specs.Marks.{most_parts}
use Rattle.document.specs.Values.{Payment, Totals, no_totals, adding}
use Rattle.document.specs.Rules.{most_payments}
use Rattle.diskette.specs.Writing.{section, write_payment, write_payments}
use Rattle.diskette.proofs.PaymentSays.{few_parts}
use Rattle.diskette.proofs.LayoutLaws.{payment_length}
use Rattle.fields.specs.declared.Refusal.{Refusal}
use Rattle.fields.specs.declared.FileKind.{FileKind}
use Rattle.fields.specs.Answers.{refusal_of, letters_of}
use Rattle.fields.specs.Answers as fields
use Rattle.sums.specs.declared.Sums.{Sums}
use Rattle.sums.specs.Sums.{totals_of, sums_of}
use Rattle.payment.specs.Adding.{with_payment}
use Rattle.document.proofs.SumLaws.{together_nothing, together_more}
use Rattle.listing.specs.Lines.{tab, line_end, split}
use Rattle.listing.specs.Composing.{Composed, made, denied, and_then, provided, compose_payment, compose_payments}
use Rattle.listing.proofs.PaymentLaws.{payment_heard}
use Rattle.line_reader.specs.Reaching.{reach}
use Rattle.composer.specs.declared.Listed.{Listed}
use Rattle.composer.specs.Telling.{listed_of, payment_told, payments_told}
use Rattle.composer.proofs.ToldLaws.{longest, min_is}
use Rattle.composer.proofs.StepLaws.{not_empty, line_to, last_piece, line_within, onward, step}

-- what is owed of the lines from p on, after payments that come to t and take so many bytes
abbrev pub owed : List ℕ → List ℕ → Totals → ℕ → ℕ → fields.Reading Listed
owed l letters t size p = payments_told t size (compose_payments letters t p (split line_end (drop p l)))

pub record Reading (l : List ℕ) (kind : FileKind) (start count : ℕ) (sums : Sums) (size p : ℕ) : Type 0 where
  pub inside : p ≤ length l
  pub few : count ≤ most_payments
  pub small : size ≤ 128 * section most_parts * count
  pub rest : owed l (letters_of kind) no_totals 0 start ≡ owed l (letters_of kind) (totals_of count sums) size p

pub reading_first : (l : List ℕ) (kind : FileKind) (start : ℕ) → start ≤ length l → Reading l kind start 0 (sums_of no_totals) 0 start
reading_first l kind start h = record { inside = h; few = omega arith; small = omega arith; rest = refl }

-- ---- a line

told_more : (t : Totals) (size : ℕ) (q : Payment) (c : Composed (List Payment))
    → payments_told t size (and_then c (λ qs. made (q ∷ qs))) ≡ payments_told (adding t q) (size + length (write_payment q)) c
told_more t size q (made qs) =
    let e : size + length (write_payments (q ∷ qs)) ≡ size + length (write_payment q) + length (write_payments qs)
    = ap (λ n. size + n) (length-append (write_payment q) (write_payments qs)) ∙ sym (add_assoc size (length (write_payment q)) (length (write_payments qs))) in
    ap₂ (λ (u : Totals) (n : ℕ). Ok (listed_of u n)) (together_more t q qs) e
told_more t size q (denied v) = refl

-- what a payment's line tells
pub record Heard (letters : List ℕ) (t : Totals) (sums new : Sums) (p bytes : ℕ) (x : List ℕ) : Type 0 where
  pub payment : Payment
  pub composed : compose_payment letters t p (split tab x) ≡ made payment
  pub added : new ≡ with_payment sums payment
  pub size : bytes ≡ length (write_payment payment)

same_kept : {x y : Sums × ℕ} → ◌≡◌ {A = fields.Reading (Sums × ℕ)} (Ok x) (Ok y) → x ≡ y
same_kept e = cc

module _ (letters : List ℕ) (t : Totals) (sums : Sums) (p : ℕ) (x : List ℕ) {a : fields.Reading (Sums × ℕ)} (told : a ≡ payment_told sums (compose_payment letters t p (split tab x))) where
  pub heard_is : {new : Sums} {bytes : ℕ} → a ≡ Ok (new, bytes) → Heard letters t sums new p bytes x
  heard_is {new} {bytes} given = by (compose_payment letters t p (split tab x)) refl (sym told ∙ given)
    where
      by : (c : Composed Payment) → compose_payment letters t p (split tab x) ≡ c → payment_told sums c ≡ Ok (new, bytes) → Heard letters t sums new p bytes x
      by (made q) e g = record { payment = q; composed = e; added = ap (λ (x : Sums × ℕ). x.0) (sym (same_kept g)); size = ap (λ (x : Sums × ℕ). x.1) (sym (same_kept g)) }
      by (denied v) e g = absurd cc

  pub heard_refused : {r : Refusal} → a ≡ Err r → (v : Verdict) × (compose_payment letters t p (split tab x) ≡ denied v) × (r ≡ refusal_of v.number v.place)
  heard_refused {r} given = by (compose_payment letters t p (split tab x)) refl (sym told ∙ given)
    where
      by : (c : Composed Payment) → compose_payment letters t p (split tab x) ≡ c → payment_told sums c ≡ Err r
          → (v : Verdict) × (compose_payment letters t p (split tab x) ≡ denied v) × (r ≡ refusal_of v.number v.place)
      by (made q) e g = absurd cc
      by (denied v) e g = (v, e, cc)

module _ {l : List ℕ} {kind : FileKind} {start count : ℕ} {sums : Sums} {size p : ℕ} (reading : Reading l kind start count sums size p) (e : ℕ) (ends : e ≡ p + reach line_end (drop p l)) where
  abbrev t : Totals
  t = totals_of count sums

  module _ (more : e ≢ length l) where
    stepped : compose_payments (letters_of kind) t p (split line_end (drop p l)) ≡ onward l p e reading.inside ends more (letters_of kind) t (compose_payment (letters_of kind) t p (split tab (line_to l p e)))
    stepped = step l p e reading.inside ends more (letters_of kind) t

    -- the line at p tells a payment
    module _ {new : Sums} {bytes : ℕ} (h : Heard (letters_of kind) t sums new p bytes (line_to l p e)) where
      abbrev q : Payment
      q = h.payment

      pub one_more : count < most_payments
      one_more = (payment_heard (letters_of kind) t p (split tab (line_to l p e)) q h.composed).may

      pub record_small : bytes ≤ 128 * section most_parts
      record_small =
          let g = payment_heard (letters_of kind) t p (split tab (line_to l p e)) q h.composed in
          let m = min_is (length q.parts) (few_parts (letters_of kind) q g.good.legal) in
          let n = payment_length (letters_of kind) q g.good.legal in
          let o = longest (length q.parts) in
          subst (λ n. n ≤ 128 * section most_parts) (ap (λ k. 128 * section k) m ∙ sym n ∙ sym h.size) o

      pub reading_more : Reading l kind start (count + 1) new (size + bytes) (e + 1)
      reading_more =
          let w = line_within l p e reading.inside ends more in
          let s = reading.small in
          let r = record_small in
          let n = one_more in
          record {
            inside = omega arith;
            few = omega arith;
            small = omega arith;
            rest =
                reading.rest ∙ ap (payments_told t size) (stepped ∙ ap (onward l p e reading.inside ends more (letters_of kind) t) h.composed)
                ∙ told_more t size q (compose_payments (letters_of kind) (adding t q) (e + 1) (split line_end (drop (e + 1) l)))
                ∙ ap₂ (λ (s : Sums) (n : ℕ). owed l (letters_of kind) (totals_of (count + 1) s) (size + n) (e + 1)) (sym h.added) (sym h.size);
          }

    -- the line at p is refused
    pub reading_refused : {r : Refusal} {v : Verdict} → compose_payment (letters_of kind) t p (split tab (line_to l p e)) ≡ denied v → r ≡ refusal_of v.number v.place
        → Err r ≡ owed l (letters_of kind) no_totals 0 start
    reading_refused d w = ap (λ x. Err x) w ∙ sym (reading.rest ∙ ap (payments_told t size) (stepped ∙ ap (onward l p e reading.inside ends more (letters_of kind) t) d))

  -- ---- the end

  module _ (last : e ≡ length l) where
    one_piece : split line_end (drop p l) ≡ drop p l ∷ []
    one_piece = last_piece l p e reading.inside ends last

    -- bytes follow the last line
    pub reading_cut : p < length l → {r : Refusal} → r ≡ refusal_of 17 p → Err r ≡ owed l (letters_of kind) no_totals 0 start
    unfolding compose_payments
    reading_cut h w = ap (λ x. Err x) w ∙ sym (reading.rest ∙ ap (λ xs. payments_told t size (compose_payments (letters_of kind) t p xs)) one_piece ∙ rw (not_empty (drop p l) (omega (arith, length-drop p l))))

    module _ (h : length l ≤ p) where
      at_end : compose_payments (letters_of kind) t p (split line_end (drop p l)) ≡ provided (leb 1 count) (refusing 18 p) (made [])
      unfolding compose_payments
      at_end = ap (compose_payments (letters_of kind) t p) one_piece ∙ ap (λ x. compose_payments (letters_of kind) t p (x ∷ [])) (drop_of_length-le l h)

      pub reading_none : count ≡ 0 → {r : Refusal} → r ≡ refusal_of 18 p → Err r ≡ owed l (letters_of kind) no_totals 0 start
      reading_none n w = ap (λ x. Err x) w ∙ sym (reading.rest ∙ ap (payments_told t size) at_end ∙ rw n)

      pub reading_ends : count ≢ 0 → Ok (record { count = count; sums = sums; size = size }) ≡ owed l (letters_of kind) no_totals 0 start
      reading_ends n =
          let some : provided {A = List Payment} (leb 1 count) (refusing 18 p) (made []) ≡ made [] = rw (le-leb 1 count (omega (arith, n))) in
          sym (
          reading.rest ∙ ap (payments_told t size) (at_end ∙ some)
          ∙ ap₂ (λ (u : Totals) (n : ℕ). Ok (listed_of u n)) (together_nothing t) (add-zero size)
          )
