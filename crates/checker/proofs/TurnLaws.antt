-- One turn of the loop over payments, in the terms of the code: how it begins, how it goes on, and how it ends.
use Prim.Native.Nat.{ℕ, suc, ◌+◌, ◌-◌, ◌≤◌, ◌<◌}
use native.Mathlib.Omega.{arith}
use mathlib.Core.Path.{◌≡◌, refl, sym, ap, ◌∙◌, subst}
use Rattle.std.specs.Prelude.{Ok, Err}
use mathlib.Core.List.{List}
use Rattle.form.specs.Kind.{digits}
use Rattle.form.specs.Form.{◌>>=◌}
use Rattle.form.specs.Reader.{has}
use Rattle.form.specs.Place.{field_at, done, read_at}
use Rattle.form.proofs.FilledLaws.{field_content}
use Rattle.document.specs.Values.{no_totals}
use Rattle.document.specs.Values as values
use Rattle.document.specs.Rules.{most_payments}
use Rattle.diskette.specs.Fields.{header, payment, end, first_field, payments, behind_header}
use Rattle.diskette.proofs.EndSays.{may_begin}
use Rattle.fields.specs.declared.Refusal.{Refusal}
use Rattle.fields.specs.declared.FileKind.{FileKind}
use Rattle.fields.specs.Answers.{Reading, of_read, kind_of, letters_of}
use Rattle.fields.proofs.WalkLaws.{Fails, Walk, past_part, stopped_part, reads}
use Rattle.sums.specs.declared.Sums.{Sums}
use Rattle.sums.specs.Sums.{sums_of, totals_of}
use Rattle.header.specs.declared.Header.{Header}
use Rattle.header.specs.Heading.{headers}
use Rattle.header.proofs.Laws.{header_letters}
use Rattle.payment.specs.Adding.{payments_on}
use Rattle.checker.specs.declared.FileRead.{FileRead}
use Rattle.checker.specs.Checking.{rest_on}
use Rattle.checker.proofs.Laws.{owed, from_the_start, behind_header_lem, first_fails, first_end, behind_payment, first_payment_lem, payment_more}

-- of the file that begins at `begin` so many payments were read, which come to these sums; its rest stands at p
pub record Turn (f : List ℕ) (begin : ℕ) (kind : FileKind) (count : ℕ) (sums : Sums) (p : ℕ) : Type 0 where
  pub most : count ≤ most_payments
  pub rest : Walk (rest_on (totals_of count sums)) f (owed f begin) (payments (most_payments - count) (letters_of kind) (totals_of count sums)) p

-- A refuses the file
pub header_refuses : (f : List ℕ) (begin : ℕ) {r : Refusal} → ◌≡◌ {A = Reading (Header × ℕ)} (Err r) (of_read headers (read_at header f begin)) → Err r ≡ owed f begin
header_refuses f begin told = stopped_part header behind_header (from_the_start f begin) headers told

-- A has been read
pub turn_first : (f : List ℕ) (begin : ℕ) {h : Header} {q : ℕ} → ◌≡◌ {A = Reading (Header × ℕ)} (Ok (h, q)) (of_read headers (read_at header f begin))
    → Turn f begin h.kind 0 (sums_of no_totals) q
turn_first f begin {h} {q} told =
    let x = reads headers (read_at header f begin) told refl in
    subst (λ (y : Header × ℕ). Turn f begin y.0.kind 0 (sums_of no_totals) y.1) (sym x.given) (begun x.value x.place x.done)
  where
    begun : (v : values.Header) (q : ℕ) → read_at header f begin ≡ done v q → Turn f begin (kind_of v.file_kind) 0 (sums_of no_totals) q
    begun v q e =
        record {
          most = omega arith;
          rest = rw (header_letters f begin q v e) (behind_header_lem f v (past_part header behind_header (from_the_start f begin) e));
        }

module _ {f : List ℕ} {begin : ℕ} {kind : FileKind} {count : ℕ} {sums : Sums} {p : ℕ} (turn : Turn f begin kind count sums p) where
  -- the first field refuses the file
  pub turn_fails : {r : Refusal} → Fails (field_at (digits 4) (first_field (totals_of count sums)) f p) p r → Err r ≡ owed f begin
  turn_fails x = first_fails (letters_of kind) (totals_of count sums) (most_payments - count) turn.rest x

  module _ {l q : ℕ} (s : (field_at (digits 4) (first_field (totals_of count sums)) f p ≡ has l) × (q ≡ p + 4)) where
    -- E comes
    pub turn_ends : l ≡ 128 → {r : Reading FileRead} → r ≡ of_read (rest_on (totals_of count sums)) (read_at (end (totals_of count sums)) f q) → r ≡ owed f begin
    turn_ends e told = told ∙ sym (first_end (letters_of kind) (totals_of count sums) s (most_payments - count) turn.rest e).owed

    module _ (n : l ≡ 128 → ⊥) where
      -- a payment comes
      pub one_more : count < most_payments
      one_more = let t = totals_of count sums in may_begin t l n (field_content (digits 4) (first_field t) f p l s.0).1

      comes : Walk (rest_on (totals_of count sums)) f (owed f begin)
          (payment (letters_of kind) (totals_of count sums) l >>= behind_payment (letters_of kind) (totals_of count sums) (most_payments - (count + 1))) q
      comes =
          let h = one_more in
          let e : most_payments - count ≡ suc (most_payments - (count + 1)) = omega arith in
          first_payment_lem (letters_of kind) (totals_of count sums) s (most_payments - (count + 1)) (rw e at turn.rest) n

      -- the payment refuses the file
      pub payment_refuses : {r : Refusal} → ◌≡◌ {A = Reading (Sums × ℕ)} (Err r) (of_read (payments_on sums) (read_at (payment (letters_of kind) (totals_of count sums) l) f q))
          → Err r ≡ owed f begin
      payment_refuses told =
          stopped_part (payment (letters_of kind) (totals_of count sums) l) (behind_payment (letters_of kind) (totals_of count sums) (most_payments - (count + 1))) comes
          (payments_on sums) told

      -- the payment has been read
      pub turn_more : {new : Sums} {next : ℕ}
          → ◌≡◌ {A = Reading (Sums × ℕ)} (Ok (new, next)) (of_read (payments_on sums) (read_at (payment (letters_of kind) (totals_of count sums) l) f q))
          → Turn f begin kind (count + 1) new next
      turn_more {new} {next} told =
          let x = reads (payments_on sums) (read_at (payment (letters_of kind) (totals_of count sums) l) f q) told refl in
          let w = past_part (payment (letters_of kind) (totals_of count sums) l) (behind_payment (letters_of kind) (totals_of count sums) (most_payments - (count + 1))) comes x.done in
          let h = one_more in
          subst (λ (y : Sums × ℕ). Turn f begin kind (count + 1) y.0 y.1) (sym x.given)
          (record { most = omega arith; rest = payment_more (letters_of kind) (totals_of count sums) (most_payments - (count + 1)) x.value w })
