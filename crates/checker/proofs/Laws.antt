-- The file as the loop over payments goes through it: from A to the first payment, one payment after another, and E.
-- The walk is over `payments left kind t`, which is all that may follow payments that come to t, and it is opened once for each way in which the
-- first field turns out: refused, E's length, a length of C (`first_fails`, `first_end`, `first_payment_lem`). The answer owed counts all payments
-- of the file; behind A, and behind each payment, it is told anew as what the payments still to come add to the totals so far (`behind_header_lem`,
-- `payment_more`, by `retold` and the laws of `together`). E adds none (`end_read`).
use Prim.Native.Nat.{ℕ, zero, suc, ◌+◌}
use mathlib.Core.Path.{◌≡◌, refl, sym, ap, ◌∙◌}
use mathlib.Core.List.{List, [], ◌∷◌}
use Rattle.std.specs.Prelude.{Ok, Err}
use borrow.Author.Tests.{eq-eqb, ne_eqb}
use Rattle.form.specs.Kind.{digits}
use Rattle.form.specs.Form.{Form, ret, ◌>>=◌}
use Rattle.form.specs.Reader.{has}
use Rattle.form.specs.Place.{field_at, done, read_at}
use Rattle.form.proofs.FilledLaws.{read_filled}
use Rattle.document.specs.Values.{Header, Payment, Totals, no_totals, adding, totals}
use Rattle.document.specs.Rules.{most_payments}
use Rattle.document.proofs.SumLaws.{together_none, together_nothing, together_more}
use Rattle.diskette.specs.Fields.{Name, header, payment, end, first_field, payments, behind_header, document}
use Rattle.fields.specs.declared.Refusal.{Refusal}
use Rattle.fields.specs.Answers.{Reading, of_read, passings}
use Rattle.fields.proofs.WalkLaws.{Fails, Walk, start, past_ruled, stopped_ruled, halts, retold}
use Rattle.fields.proofs.AnswerLaws.{passed_form}
use Rattle.checker.specs.declared.FileRead.{FileRead}
use Rattle.checker.specs.Checking.{file_of, files, rest_on}

-- ---- the whole file

-- all that is owed of the file that begins at p
abbrev pub owed : List ℕ → ℕ → Reading FileRead
owed f p = of_read files (read_at document f p)

pub from_the_start : (f : List ℕ) (p : ℕ) → Walk files f (owed f p) (header >>= behind_header) p
unfolding document
from_the_start f p = start (header >>= behind_header) p

-- ---- from A to the payments

pub behind_header_lem : (f : List ℕ) (h : Header) {g : Reading FileRead} {q : ℕ} → Walk files f g (behind_header h) q
    → Walk (rest_on no_totals) f g (payments most_payments h.file_kind no_totals) q
behind_header_lem f h w =
    retold files (rest_on no_totals) (payments most_payments h.file_kind no_totals) (λ ps. record { header = h; payments = ps })
    (λ ps q. ap (λ t. file_of t q) (sym (together_none (totals ps)))) w

-- ---- the first field after A or a payment

-- what follows a payment
abbrev pub behind_payment : List ℕ → Totals → ℕ → Payment → Form Name (List Payment)
behind_payment kind t left x = payments left kind (adding t x) >>= λ ps. ret (x ∷ ps)

module _ {f : List ℕ} {g : Reading FileRead} {p : ℕ} (kind : List ℕ) (t : Totals) where
  pub first_fails : (left : ℕ) → Walk (rest_on t) f g (payments left kind t) p → {r : Refusal} → Fails (field_at (digits 4) (first_field t) f p) p r → Err r ≡ g
  unfolding payments
  first_fails zero w x = stopped_ruled w x
  first_fails (suc left) w x = stopped_ruled w x

  module _ {l q : ℕ} (s : (field_at (digits 4) (first_field t) f p ≡ has l) × (q ≡ p + 4)) where
    -- where the first field is E's length, E is read behind it
    pub first_end : (left : ℕ) → Walk (rest_on t) f g (payments left kind t) p → l ≡ 128 → Walk (rest_on t) f g (end t) q
    unfolding payments
    first_end zero w e = past_ruled w s
    first_end (suc left) w e = rw (eq-eqb l 128 e) at (past_ruled w s)

    -- where the first field is a length of C, a payment is read behind it
    pub first_payment_lem : (left : ℕ) → Walk (rest_on t) f g (payments (suc left) kind t) p → (l ≡ 128 → ⊥)
        → Walk (rest_on t) f g (payment kind t l >>= behind_payment kind t left) q
    unfolding payments
    first_payment_lem left w n = rw (ne_eqb l 128 n) at (past_ruled w s)

-- ---- a payment

pub payment_more : {f : List ℕ} {g : Reading FileRead} {q : ℕ} (kind : List ℕ) (t : Totals) (left : ℕ) (x : Payment)
    → Walk (rest_on t) f g (behind_payment kind t left x) q → Walk (rest_on (adding t x)) f g (payments left kind (adding t x)) q
payment_more {f} kind t left x w =
    retold (rest_on t) (rest_on (adding t x)) (payments left kind (adding t x)) (λ ps. x ∷ ps)
    (λ ps q. ap (λ u. file_of u q) (together_more t x ps)) w

-- ---- E

end_says_nothing : (t : Totals) (f : List ℕ) (p q : ℕ) (ps : List Payment) → read_at (end t) f p ≡ done ps q → ps ≡ []
end_says_nothing t f p q ps e = sym (read_filled (end t) f p q ps e).1

module _ (f : List ℕ) (t : Totals) (p : ℕ) where
  pub end_refused : {r : Refusal} → ◌≡◌ {A = Reading ℕ} (Err r) (of_read passings (read_at (end t) f p)) → Err r ≡ of_read (rest_on t) (read_at (end t) f p)
  unfolding of_read
  end_refused told =
      let h = halts passings (read_at (end t) f p) told refl in
      rw (h.2) (ap (of_read (rest_on t)) (sym h.1))

  pub end_read : {q : ℕ} → ◌≡◌ {A = Reading ℕ} (Ok q) (of_read passings (read_at (end t) f p)) → Ok (file_of t q) ≡ of_read (rest_on t) (read_at (end t) f p)
  unfolding of_read
  end_read {q} told =
      let x = passed_form (read_at (end t) f p) told refl in
      let e : read_at (end t) f p ≡ done [] q = x.1 ∙ ap (λ ps. done ps q) (end_says_nothing t f p q x.0 x.1) in
      ap (λ u. Ok (file_of u q)) (sym (together_nothing t)) ∙ ap (of_read (rest_on t)) (sym e)
