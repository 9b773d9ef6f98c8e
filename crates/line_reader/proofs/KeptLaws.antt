-- A number that keeps the rules of its field, one test after another; and that where a number is none, or fails a test, no number keeps them
-- there.
-- The rules of a field are tests in a row, so a number that was read and passed them is the field read with its rules, by rewriting alone
-- (`kept_c4` to `kept_c12`). For the other half, a field is read once: whatever number keeps the rules there is the one that the code has read,
-- and so it has passed the tests that the code made (`looked` and `keeps` of FieldLaws). A number that was refused or a test that failed
-- therefore leaves none (`no_number`, `receiver_tests`, `amount_tests`).
use Prim.Native.Nat.{ℕ, ◌+◌}
use mathlib.Core.Path.{◌≡◌, refl, sym, ◌∙◌, subst}
use mathlib.Core.Bool.{Bool, true, false, ◌&&◌, not}
use mathlib.Core.List.{List}
use Rattle.std.specs.Prelude.{Option, Some, None, Ok, Err}
use Rattle.std.specs.Result.{result_ok}
use lib.Dec.{T, leb, ltb}
use borrow.Author.Tests.{not-true, not-false}
use Rattle.form.specs.Kind.{digits}
use Rattle.form.specs.Form.{Holds}
use Rattle.form.specs.Reader.{Look, has}
use Rattle.form.specs.Place.{look_at, field_at}
use Rattle.form.proofs.AnswerLaws.{has_or_lacks}
use Rattle.form.proofs.BoolLaws.{is_true, T_of, and_both, and_of}
use Rattle.document.specs.Rules.{bank_code_ok, customer_ok, key_ok, supplement_ok, not_zero, sum_limit, most_cents}
use Rattle.diskette.specs.Fields.{rules_c4, rules_c5, rules_c6, rules_c7a, rules_c7b, rules_c10, rules_c11, rules_c12}
use Rattle.layout.specs.Lines as line
use Rattle.fields.specs.declared.Refusal.{Refusal}
use Rattle.fields.specs.Answers.{Reading, of_field, numbers}
use Rattle.fields.proofs.AnswerLaws.{number_is}
use Rattle.fields.proofs.WalkLaws.{fails}
use Rattle.sums.specs.declared.AccountSum.{AccountSum}
use Rattle.sums.specs.declared.BankCodeSum.{BankCodeSum}
use Rattle.sums.specs.declared.CentSum.{CentSum}
use Rattle.line_reader.specs.Lines.{Found, Receiver, Amount}
use Rattle.line_reader.proofs.FieldLaws.{looked, keeps}

-- ---- what `ok` has taken from the answer to a number

pub ok_some : (a : Reading (ℕ × ℕ)) {y : ℕ × ℕ} → Some y ≡ result_ok a → a ≡ Ok y
ok_some (Ok x) e = cc
ok_some (Err r) e = absurd cc

ok_none : (a : Reading (ℕ × ℕ)) → None ≡ result_ok a → (r : Refusal) × (a ≡ Err r)
ok_none (Ok x) e = absurd cc
ok_none (Err r) e = (r, refl)

module _ {a : Reading (ℕ × ℕ)} (p n : ℕ) (x : Look ℕ) (told : a ≡ of_field numbers p n x) where
  -- the number that stands there, and the place behind it
  pub taken : {y : ℕ × ℕ} → Some y ≡ result_ok a → (x ≡ has y.0) × (y.1 ≡ n)
  taken given = number_is p n x told (ok_some a given)

  -- where there is none, no number is read
  pub no_number : None ≡ result_ok a → {v : ℕ} → x ≡ has v → ⊥
  no_number given e = has_or_lacks (sym e ∙ (fails numbers p n x told (ok_none a given).1).lack)

-- what was found, or that nothing was
pub found : {A : Type 0} (P : A → Type 0) (o : Option A) → (o ≡ None → (x : A) → P x → ⊥) → ((x : A) → o ≡ Some x → P x) → Found P o
found P None none some = none refl
found P (Some x) none some = some x refl

-- ---- tests

-- both of two tests were passed
pub both : (a b : Bool) → not (a && b) ≡ false → (a ≡ true) × (b ≡ true)
both a b e = let h = and_both a b (T_of (not-false (a && b) e)) in (is_true a h.0, is_true b h.1)

pub each : (a b : Bool) → a && b ≡ true → (a ≡ true) × (b ≡ true)
each a b e = let h = and_both a b (T_of e) in (is_true a h.0, is_true b h.1)

module _ (l : List ℕ) (q v : ℕ) where
  pub kept_c4 : (sum : ℕ) → look_at (digits 8) l q ≡ has v → bank_code_ok v ≡ true → ltb (sum + v) sum_limit ≡ true → field_at (digits 8) (rules_c4 sum) l q ≡ has v
  kept_c4 sum content e i = rw (content, e, i)

  pub kept_c5 : (sum : ℕ) → look_at (digits 10) l q ≡ has v → not_zero v ≡ true → ltb (sum + v) sum_limit ≡ true → field_at (digits 10) (rules_c5 sum) l q ≡ has v
  kept_c5 sum content e i = rw (content, e, i)

  pub kept_c6 : look_at (digits 13) l q ≡ has v → customer_ok v ≡ true → field_at (digits 13) rules_c6 l q ≡ has v
  kept_c6 content e = rw (content, e)

  pub kept_c7a : (letters : List ℕ) → look_at (digits 2) l q ≡ has v → key_ok letters v ≡ true → field_at (digits 2) (rules_c7a letters) l q ≡ has v
  kept_c7a letters content e = rw (content, e)

  pub kept_c7b : (key : ℕ) → look_at (digits 3) l q ≡ has v → supplement_ok key v ≡ true → field_at (digits 3) (rules_c7b key) l q ≡ has v
  kept_c7b key content e = rw (content, e)

  pub kept_c10 : look_at (digits 8) l q ≡ has v → bank_code_ok v ≡ true → field_at (digits 8) rules_c10 l q ≡ has v
  kept_c10 content e = rw (content, e)

  pub kept_c11 : look_at (digits 10) l q ≡ has v → not_zero v ≡ true → field_at (digits 10) rules_c11 l q ≡ has v
  kept_c11 content e = rw (content, e)

  pub kept_c12 : (sum : ℕ) → look_at (digits 11) l q ≡ has v → not_zero v ≡ true → leb (sum + v) most_cents ≡ true → field_at (digits 11) (rules_c12 sum) l q ≡ has v
  kept_c12 sum content e i = rw (content, e, i)

-- ---- where a number is none, or fails a test, no number keeps the rules

-- a test that is passed does not fail
pub failed : {b : Bool} → T b → b ≡ false → ⊥
failed t e = subst T e t

module _ {l : List ℕ} {p : ℕ} {letters : List ℕ} {accounts banks : ℕ} {a : AccountSum} {b : BankCodeSum} (r : Receiver l p letters accounts banks a b) where
  pub read_c4 : look_at (digits 8) l (p + line.C4) ≡ has r.fields.bank_code
  read_c4 = looked (digits 8) (rules_c4 banks) l (p + line.C4) r.C4

  pub keeps_c4 : {v : ℕ} → look_at (digits 8) l (p + line.C4) ≡ has v → Holds (rules_c4 banks v)
  keeps_c4 e = keeps (digits 8) (rules_c4 banks) l (p + line.C4) r.C4 e

  pub read_c5 : look_at (digits 10) l (p + line.C5) ≡ has r.fields.account
  read_c5 = looked (digits 10) (rules_c5 accounts) l (p + line.C5) r.C5

  pub keeps_c5 : {v : ℕ} → look_at (digits 10) l (p + line.C5) ≡ has v → Holds (rules_c5 accounts v)
  keeps_c5 e = keeps (digits 10) (rules_c5 accounts) l (p + line.C5) r.C5 e

  pub read_c6 : look_at (digits 13) l (p + line.C6) ≡ has r.fields.customer
  read_c6 = looked (digits 13) rules_c6 l (p + line.C6) r.C6

  pub read_c7a : look_at (digits 2) l (p + line.C7a) ≡ has r.fields.key
  read_c7a = looked (digits 2) (rules_c7a letters) l (p + line.C7a) r.C7a

  pub read_c7b : look_at (digits 3) l (p + line.C7b) ≡ has r.fields.supplement
  read_c7b = looked (digits 3) (rules_c7b r.fields.key) l (p + line.C7b) r.C7b

  -- the supplement that was read goes with the key that was read
  keeps_c7b : {key v : ℕ} → look_at (digits 2) l (p + line.C7a) ≡ has key → look_at (digits 3) l (p + line.C7b) ≡ has v → T (supplement_ok key v)
  keeps_c7b {key} {v} c7a c7b =
      let i = read_c7a in
      let same : r.fields.key ≡ key = cc in
      subst (λ k. T (supplement_ok k v)) same (keeps (digits 3) (rules_c7b r.fields.key) l (p + line.C7b) r.C7b c7b).0

  -- the tests of the numbers that were read do not fail
  pub receiver_tests : {bank account customer key v : ℕ} → look_at (digits 8) l (p + line.C4) ≡ has bank → look_at (digits 10) l (p + line.C5) ≡ has account
      → look_at (digits 13) l (p + line.C6) ≡ has customer → look_at (digits 2) l (p + line.C7a) ≡ has key → look_at (digits 3) l (p + line.C7b) ≡ has v
      → {x y z w : Bool} → x ≡ bank_code_ok bank → y ≡ customer_ok customer → z ≡ key_ok letters key → w ≡ supplement_ok key v
      → not (((x && not_zero account) && y) && (z && w)) ≡ true → ⊥
  receiver_tests {bank} {account} {customer} {key} {v} c4 c5 c6 c7a c7b {x} {y} {z} {w} i j k m e =
      let t =
      and_of ((bank_code_ok bank && not_zero account) && customer_ok customer) (key_ok letters key && supplement_ok key v)
      (and_of (bank_code_ok bank && not_zero account) (customer_ok customer)
      (and_of (bank_code_ok bank) (not_zero account) (keeps_c4 c4).0 (keeps_c5 c5).0) (keeps (digits 13) rules_c6 l (p + line.C6) r.C6 c6).0)
      (and_of (key_ok letters key) (supplement_ok key v)
      (keeps (digits 2) (rules_c7a letters) l (p + line.C7a) r.C7a c7a).0 (keeps_c7b c7a c7b)) in
      failed t (rw (i, j, k, m) at (not-true (((x && not_zero account) && y) && (z && w)) e))

module _ {l : List ℕ} {p cents : ℕ} {c : CentSum} (a : Amount l p cents c) where
  pub read_c10 : look_at (digits 8) l (p + line.C10) ≡ has a.fields.sender_bank
  read_c10 = looked (digits 8) rules_c10 l (p + line.C10) a.C10

  pub read_c11 : look_at (digits 10) l (p + line.C11) ≡ has a.fields.sender_account
  read_c11 = looked (digits 10) rules_c11 l (p + line.C11) a.C11

  pub read_c12 : look_at (digits 11) l (p + line.C12) ≡ has a.fields.cents
  read_c12 = looked (digits 11) (rules_c12 cents) l (p + line.C12) a.C12

  pub keeps_c12 : {v : ℕ} → look_at (digits 11) l (p + line.C12) ≡ has v → Holds (rules_c12 cents v)
  keeps_c12 e = keeps (digits 11) (rules_c12 cents) l (p + line.C12) a.C12 e

  pub amount_tests : {bank account v : ℕ} → look_at (digits 8) l (p + line.C10) ≡ has bank → look_at (digits 10) l (p + line.C11) ≡ has account
      → look_at (digits 11) l (p + line.C12) ≡ has v → {x : Bool} → x ≡ bank_code_ok bank → not ((x && not_zero account) && not_zero v) ≡ true → ⊥
  amount_tests {bank} {account} {v} c10 c11 c12 {x} i e =
      let t =
      and_of (bank_code_ok bank && not_zero account) (not_zero v)
      (and_of (bank_code_ok bank) (not_zero account)
      (keeps (digits 8) rules_c10 l (p + line.C10) a.C10 c10).0 (keeps (digits 10) rules_c11 l (p + line.C11) a.C11 c11).0)
      (keeps_c12 c12).0 in
      failed t (rw i at (not-true ((x && not_zero account) && not_zero v) e))
