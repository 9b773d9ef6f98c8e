-- A payment as the steps in which the code reads it: another reader's answer for each stretch, and what follows it.
use Rattle.std.proofs.Common.{◌≡◌, ℕ, List, Ok, Err, sym, refl, ◌∙◌}
use Rattle.form.specs.Form.{Form, ret, ◌>>=◌}
use Rattle.form.specs.Place.{read_at}
use Rattle.document.specs.Values.{Payment, Part}
use Rattle.diskette.specs.Fields.{Name, parts, payment}
use Rattle.fields.specs.Answers.{Reading, Telling, of_read, passings, numbers}
use Rattle.fields.proofs.AnswerLaws.{number_form}
use Rattle.fields.proofs.WalkLaws.{start, past_part, stopped_part}
use Rattle.fields.proofs.StepLaws.{Gives, at_end, onward, step_part}
use Rattle.sums.specs.declared.Sums.{Sums}
use Rattle.sums.specs.Sums.{totals_of}
use Rattle.payment_fields.specs.Stretches.{Receiver, receiver, receivers_on, Amount, amount, amounts_on, Names, names, part_count, joined}
use Rattle.payment.specs.Adding.{payments_on}

-- ---- what is left of a payment behind each of its stretches

abbrev behind_count : Receiver → Amount → Names → ℕ → Form Name Payment
behind_count r a n k = parts k 0 15 >>= λ ps. ret (joined r a n ps)

abbrev behind_names : ℕ → Receiver → Amount → Names → Form Name Payment
behind_names l r a n = part_count l >>= λ k. behind_count r a n k

abbrev behind_amount : ℕ → Receiver → Amount → Form Name Payment
behind_amount l r a = names >>= λ n. behind_names l r a n

abbrev behind_receiver : ℕ → ℕ → Receiver → Form Name Payment
behind_receiver cents l r = amount cents >>= λ a. behind_amount l r a

-- ---- the steps

-- C18: the number of parts that is given is the one that was read
module _ {A T : Type 0} {t : Telling A T} {f : List ℕ} (l : ℕ) (g : ℕ → Form Name A) {p : ℕ} (k : ℕ × ℕ → Reading T)
    (follows : (n q : ℕ) → Gives t f (g n) q (k (n, q))) where
  step_count : Gives t f (part_count l >>= g) p (onward (of_read numbers (read_at (part_count l) f p)) k)
  step_count = record { is = by (of_read numbers (read_at (part_count l) f p)) refl }
    where
      by : (a : Reading (ℕ × ℕ)) → a ≡ of_read numbers (read_at (part_count l) f p) → of_read t (read_at (part_count l >>= g) f p) ≡ onward a k
      by (Ok (n, q)) told =
          (past_part (part_count l) g (start (part_count l >>= g) p) (number_form (read_at (part_count l) f p) told refl)).owed ∙ (follows n q).is
      by (Err r) told = sym (stopped_part (part_count l) g (start (part_count l >>= g) p) numbers told)

module _ (kind : List ℕ) (t : Sums) (l : ℕ) (s : List ℕ) (p : ℕ) where
  -- what the code answers, step by step
  abbrev pub told : Reading (Sums × ℕ)
  told =
      onward (of_read (receivers_on t.accounts.0 t.banks.0) (read_at (receiver kind t.accounts.0 t.banks.0) s p)) (λ r.
      onward (of_read (amounts_on t.cents.0) (read_at (amount t.cents.0) s r.2)) (λ a.
      onward (of_read (passings {X = Names}) (read_at names s a.1)) (λ p17a.
      onward (of_read numbers (read_at (part_count l) s p17a)) (λ k.
      onward (of_read (passings {X = List Part}) (read_at (parts k.0 0 15) s k.1)) (λ end.
      Ok (record { accounts = r.0; banks = r.1; cents = a.0 }, end))))))

  gives : Gives (payments_on t) s (payment kind (totals_of 0 t) l) p told
  gives =
      step_part (receiver kind t.accounts.0 t.banks.0) (behind_receiver t.cents.0 l) (receivers_on t.accounts.0 t.banks.0) _ (λ r q e.
      step_part (amount t.cents.0) (behind_amount l r) (amounts_on t.cents.0) _ (λ a q e.
      step_part names (behind_names l r a) passings _ (λ n q e.
      step_count l (behind_count r a n) _ (λ k q.
      step_part (parts k 0 15) (λ ps. ret (joined r a n ps)) passings _ (λ ps q e. at_end)))))

  pub payment_steps : of_read (payments_on t) (read_at (payment kind (totals_of 0 t) l) s p) ≡ told
  payment_steps = gives.is
