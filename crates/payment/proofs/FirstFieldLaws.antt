-- The first field after A or a payment as the code reads it: its number, and then its three rules in their order.
use Rattle.std.proofs.Common.{◌≡◌, ℕ, Bool, true, false, ◌&&◌, ◌||◌, cond, List, [], ◌∷◌, Ok, Err, eqb, leb, ltb, refl}
use Rattle.form.specs.Kind.{digits}
use Rattle.form.specs.Form.{rule}
use Rattle.form.specs.Reader.{Look, has, lacks, ◌then◌, obey}
use Rattle.form.specs.Place.{look_at, field_at}
use Rattle.verdict.specs.Verdicts.{number_of}
use Rattle.document.specs.Values.{Totals}
use Rattle.document.specs.Rules.{most_payments, most_cents}
use Rattle.diskette.specs.Fields.{is_length, first_field}
use Rattle.fields.specs.Answers.{Reading, refusal_of, of_field, numbers}
use Rattle.fields.proofs.StepLaws.{onward}

-- three tests in their order, each with its refusal
abbrev pub ruled : Bool → Bool → Bool → ℕ → ℕ × ℕ → Reading (ℕ × ℕ)
ruled legal counted summed p x =
    cond legal (cond counted (cond summed (Ok x) (Err (refusal_of 9 p))) (Err (refusal_of 6 p))) (Err (refusal_of 5 p))

module _ (t : Totals) (s : List ℕ) (p n : ℕ) where
  pub first_field_steps : of_field numbers p n (field_at (digits 4) (first_field t) s p)
      ≡ onward (of_field numbers p n (look_at (digits 4) s p)) (λ x. ruled ((eqb x.0 128 && leb 1 t.count) || is_length x.0) (eqb x.0 128 || ltb t.count most_payments) (eqb x.0 128 || ltb t.cents most_cents) p x)
  unfolding of_field number_of
  first_field_steps = by (look_at (digits 4) s p)
    where
      at : (v : ℕ) (a b c : Bool) → of_field numbers p n (obey (rule 5 a ∷ rule 6 b ∷ rule 9 c ∷ []) v) ≡ ruled a b c p (v, n)
      at v true true true = refl
      at v true true false = refl
      at v true false c = refl
      at v false b c = refl

      by : (l : Look ℕ) → of_field numbers p n (◌then◌ l (λ v. obey (first_field t v) v))
          ≡ onward (of_field numbers p n l) (λ x. ruled ((eqb x.0 128 && leb 1 t.count) || is_length x.0) (eqb x.0 128 || ltb t.count most_payments) (eqb x.0 128 || ltb t.cents most_cents) p x)
      by (has v) = at v ((eqb v 128 && leb 1 t.count) || is_length v) (eqb v 128 || ltb t.count most_payments) (eqb v 128 || ltb t.cents most_cents)
      by (lacks z) = refl
