-- The summed fields and the four stretches of a payment as the steps in which the code reads them: a leaf's answer for each field, and what
-- follows it. A summed field has two rules, one for its number and one for the sum: the code reads it as a number with the first, and then adds.
use Rattle.std.proofs.Common.{◌≡◌, ℕ, ◌+◌, Bool, true, false, cond, List, [], ◌∷◌, Option, Some, None, Ok, leb, ltb, ok_or, refl}
use Rattle.form.specs.Form.{rule}
use Rattle.form.specs.Reader.{Look, has, lacks, ◌then◌, obey}
use Rattle.form.specs.Kind.{fixed, digits, blanks}
use Rattle.form.specs.Place.{look_at, field_at, read_at}
use Rattle.document.specs.Signs.{ascii, zeros}
use Rattle.document.specs.Rules.{bank_code_ok, most_cents, not_zero, sum_limit}
use Rattle.diskette.specs.Fields.{text27, rules_c4, rules_c5, rules_c6, rules_c7a, rules_c7b, rules_c10, rules_c11, rules_c12, rules_of_names, rules_c18}
use Rattle.verdict.specs.Verdicts.{number_of}
use Rattle.fields.specs.Answers.{Reading, refusal_of, of_field, of_read, passings, numbers}
use Rattle.fields.proofs.StepLaws.{Gives, at_end, last, last_ruled, onward, step, step_ruled}
use Rattle.sums.specs.declared.AccountSum.{AccountSum}
use Rattle.sums.specs.declared.BankCodeSum.{BankCodeSum}
use Rattle.sums.specs.declared.CentSum.{CentSum}
use Rattle.sums.specs.Sums.{accounts_added, bank_codes_added, cents_added}
use Rattle.payment_fields.specs.Ruled.{one_rule}
use Rattle.payment_fields.specs.Summed.{accounts_on, bank_codes_on, cents_on}
use Rattle.payment_fields.specs.Stretches.{receiver, receivers_on, amount, amounts_on, names, part_count}

-- ---- the summed fields

-- what is said of a number that kept its rule: the sum that it leads to, where that keeps its own
abbrev added : {S : Type 0} → ℕ → ℕ → Option S → ℕ → Reading (S × ℕ)
added j p sum q = onward (ok_or sum (refusal_of j p)) (λ total. Ok (total, q))

module _ {S : Type 0} (w i j : ℕ) (first second : ℕ → Bool) (sum : ℕ → S) (s : List ℕ) (p n : ℕ) where
  summed : of_field (λ v q. (sum v, q)) p n (field_at (digits w) (λ v. rule i (first v) ∷ rule j (second v) ∷ []) s p)
      ≡ onward (of_field numbers p n (field_at (digits w) (one_rule i first) s p)) (λ x. added j p (cond (second x.0) (Some (sum x.0)) None) x.1)
  unfolding of_field number_of
  summed = by (look_at (digits w) s p)
    where
      then_sum : (v : ℕ) (b : Bool) → of_field (λ v q. (sum v, q)) p n (obey (rule j b ∷ []) v) ≡ added j p (cond b (Some (sum v)) None) n
      then_sum v true = refl
      then_sum v false = refl

      at : (v : ℕ) (b : Bool) → of_field (λ v q. (sum v, q)) p n (obey (rule i b ∷ rule j (second v) ∷ []) v)
          ≡ onward (of_field numbers p n (obey (rule i b ∷ []) v)) (λ x. added j p (cond (second x.0) (Some (sum x.0)) None) x.1)
      at v true = then_sum v (second v)
      at v false = refl

      by : (l : Look ℕ) → of_field (λ v q. (sum v, q)) p n (◌then◌ l (λ v. obey (rule i (first v) ∷ rule j (second v) ∷ []) v))
          ≡ onward (of_field numbers p n (◌then◌ l (λ v. obey (one_rule i first v) v))) (λ x. added j p (cond (second x.0) (Some (sum x.0)) None) x.1)
      by (has v) = at v (first v)
      by (lacks z) = refl

module _ (sum : ℕ) (s : List ℕ) (p : ℕ) where
  pub c4_steps : of_field (bank_codes_on sum) p (p + 8) (field_at (digits 8) (rules_c4 sum) s p)
      ≡ onward (of_field numbers p (p + 8) (field_at (digits 8) rules_c10 s p)) (λ x. added 8 p (bank_codes_added sum x.0) x.1)
  unfolding bank_codes_added
  c4_steps = summed 8 11 8 bank_code_ok (λ v. ltb (sum + v) sum_limit) (λ v. record { 0 = sum + v }) s p (p + 8)

  pub c5_steps : of_field (accounts_on sum) p (p + 10) (field_at (digits 10) (rules_c5 sum) s p)
      ≡ onward (of_field numbers p (p + 10) (field_at (digits 10) rules_c11 s p)) (λ x. added 7 p (accounts_added sum x.0) x.1)
  unfolding accounts_added
  c5_steps = summed 10 11 7 not_zero (λ v. ltb (sum + v) sum_limit) (λ v. record { 0 = sum + v }) s p (p + 10)

  pub c12_steps : of_field (cents_on sum) p (p + 11) (field_at (digits 11) (rules_c12 sum) s p)
      ≡ onward (of_field numbers p (p + 11) (field_at (digits 11) (one_rule 11 not_zero) s p)) (λ x. added 9 p (cents_added sum x.0) x.1)
  unfolding cents_added
  c12_steps = summed 11 11 9 not_zero (λ v. leb (sum + v) most_cents) (λ v. record { 0 = sum + v }) s p (p + 11)

-- ---- C2 to C7b

module _ (kind : List ℕ) (accounts banks : ℕ) (s : List ℕ) (p : ℕ) where
  abbrev pub received : Reading (AccountSum × BankCodeSum × ℕ)
  received =
      onward (of_field (passings {X = Unit {0}}) p (p + 1) (look_at (fixed (ascii "C")) s p)) (λ p3.
      onward (of_field numbers p3 (p3 + 8) (look_at (digits 8) s p3)) (λ c3.
      onward (of_field (bank_codes_on banks) c3.1 (c3.1 + 8) (field_at (digits 8) (rules_c4 banks) s c3.1)) (λ c4.
      onward (of_field (accounts_on accounts) c4.1 (c4.1 + 10) (field_at (digits 10) (rules_c5 accounts) s c4.1)) (λ c5.
      onward (of_field numbers c5.1 (c5.1 + 13) (field_at (digits 13) rules_c6 s c5.1)) (λ c6.
      onward (of_field numbers c6.1 (c6.1 + 2) (field_at (digits 2) (rules_c7a kind) s c6.1)) (λ c7a.
      onward (of_field numbers c7a.1 (c7a.1 + 3) (field_at (digits 3) (rules_c7b c7a.0) s c7a.1)) (λ c7b.
      Ok (c5.0, c4.0, c7b.1))))))))

  receives : Gives (receivers_on accounts banks) s (receiver kind accounts banks) p received
  receives =
      step passings _ (λ v. step numbers _ (λ v. step_ruled (bank_codes_on banks) _ (λ v. step_ruled (accounts_on accounts) _ (λ v.
      step_ruled numbers _ (λ v. step_ruled numbers _ (λ v. step_ruled numbers _ (λ v. at_end)))))))

  pub receiver_steps : of_read (receivers_on accounts banks) (read_at (receiver kind accounts banks) s p) ≡ received
  receiver_steps = receives.is

-- ---- C8 to C12

module _ (sum : ℕ) (s : List ℕ) (p : ℕ) where
  abbrev pub paid : Reading (CentSum × ℕ)
  paid =
      onward (of_field (passings {X = Unit {0}}) p (p + 1) (look_at (fixed (blanks 1)) s p)) (λ p9.
      onward (of_field (passings {X = Unit {0}}) p9 (p9 + 11) (look_at (fixed (zeros 11)) s p9)) (λ p10.
      onward (of_field numbers p10 (p10 + 8) (field_at (digits 8) rules_c10 s p10)) (λ c10.
      onward (of_field numbers c10.1 (c10.1 + 10) (field_at (digits 10) rules_c11 s c10.1)) (λ c11.
      of_field (cents_on sum) c11.1 (c11.1 + 11) (field_at (digits 11) (rules_c12 sum) s c11.1)))))

  pays : Gives (amounts_on sum) s (amount sum) p paid
  pays = step passings _ (λ v. step passings _ (λ v. step_ruled numbers _ (λ v. step_ruled numbers _ (λ v. last_ruled (cents_on sum) (λ v. at_end)))))

  pub amount_steps : of_read (amounts_on sum) (read_at (amount sum) s p) ≡ paid
  amount_steps = pays.is

-- ---- C13 to C16

module _ (s : List ℕ) (p : ℕ) where
  abbrev pub named : Reading ℕ
  named =
      onward (of_field (passings {X = Unit {0}}) p (p + 3) (look_at (fixed (blanks 3)) s p)) (λ p14a.
      onward (of_field (passings {X = List ℕ}) p14a (p14a + 27) (field_at text27 rules_of_names s p14a)) (λ p14b.
      onward (of_field (passings {X = Unit {0}}) p14b (p14b + 8) (look_at (fixed (blanks 8)) s p14b)) (λ p15.
      onward (of_field (passings {X = List ℕ}) p15 (p15 + 27) (field_at text27 rules_of_names s p15)) (λ p16.
      of_field (passings {X = List ℕ}) p16 (p16 + 27) (look_at text27 s p16)))))

  names_them : Gives passings s names p named
  names_them = step passings _ (λ v. step_ruled passings _ (λ v. step passings _ (λ v. step_ruled passings _ (λ v. last passings (λ v. at_end)))))

  pub names_steps : of_read passings (read_at names s p) ≡ named
  names_steps = names_them.is

-- ---- C17a to C18

module _ (l : ℕ) (s : List ℕ) (p : ℕ) where
  abbrev pub counted : Reading (ℕ × ℕ)
  counted =
      onward (of_field (passings {X = Unit {0}}) p (p + 1) (look_at (fixed (ascii "1")) s p)) (λ p17b.
      onward (of_field (passings {X = Unit {0}}) p17b (p17b + 2) (look_at (fixed (blanks 2)) s p17b)) (λ p18.
      of_field numbers p18 (p18 + 2) (field_at (digits 2) (rules_c18 l) s p18)))

  counts : Gives numbers s (part_count l) p counted
  counts = step passings _ (λ v. step passings _ (λ v. last_ruled numbers (λ v. at_end)))

  pub part_count_steps : of_read numbers (read_at (part_count l) s p) ≡ counted
  part_count_steps = counts.is
