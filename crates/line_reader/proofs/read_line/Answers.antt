-- line_reader::read_line meets its contract: what was seen, stretch by stretch, is the line of a payment, and a stretch that was not seen is in
-- no such line.
-- There is no loop; `seen` gathers what the three stretches have told, and of it the answer is made by `line_seen_lem` and `told_is`. At each no
-- `told_no` asks that nobody could have seen all of the line: the stretch that the code did not see would be in it. For the parts it has to be
-- known that they would stand where the code has looked for them, behind texts that stand at their place once (`names_once`).
use Prim.Native.Nat.{ℕ}
use native.Mathlib.Omega.{arith}
use mathlib.Core.Path.{subst}
use Rattle.fields.specs.Answers.{letters_of}
use Rattle.line_reader.specs.Lines.{PartsTo}
use Rattle.line_reader.proofs.SeenLaws.{names_once}
use Rattle.line_reader.proofs.PartLaws.{parts_told}
use Rattle.line_reader.proofs.PaymentLaws.{Seen, line_seen_lem}
use Rattle.line_reader.proofs.ToldLaws.{told_is, told_no}
use Rattle.line_reader.proofs.read_line.Goals as goal

pub returns-then-count-ge-MOST_PAYMENTS : goal.returns-then-count-ge-MOST_PAYMENTS
returns-then-count-ge-MOST_PAYMENTS c = told_no _ _ _ _ _ (λ new k e s. omega (arith, s.may, c.if-count-ge-MOST_PAYMENTS.true))

pub returns-in_err-new_sums : goal.returns-in_err-new_sums
returns-in_err-new_sums c = rw c.from_residual.ensures (told_no _ _ _ _ _ (λ new k e s. c.in_err-new_sums.ensures new s.numbers))

pub overflow_add-p : goal.overflow_add-p
overflow_add-p c =
    let h = c.in_ok-new_sums.ensures.inside in
    omega (arith, c.well_formed)

pub returns-in_err-first : goal.returns-in_err-first
returns-in_err-first c = rw c.from_residual-in_err-first.ensures (told_no _ _ _ _ _ (λ new k e s. c.in_err-first.ensures s.behind_texts s.texts))

pub returns-in_err-k : goal.returns-in_err-k
returns-in_err-k c =
    rw c.from_residual-in_err-k.ensures
    (told_no _ _ _ _ _ (λ new k e s. c.in_err-k.ensures (k, e)
    (subst (λ (q : ℕ). PartsTo c.args.l.now q 15 k e) (names_once s.texts c.in_ok-first.ensures) s.parts)))

pub overflow_add-seen : goal.overflow_add-seen
overflow_add-seen c = omega (arith, (parts_told c.in_ok-k.ensures).inside, c.well_formed)

pub returns : goal.returns
returns c =
    let seen : let a = c.args in Seen a.l.now a.p (letters_of a.kind) a.count a.sums c.in_ok-new_sums.new_sums c.in_ok-k.k c.in_ok-k.e
    = record {
      may = c.if-count-ge-MOST_PAYMENTS.false;
      numbers = c.in_ok-new_sums.ensures;
      behind_texts = c.in_ok-first.first;
      texts = c.in_ok-first.ensures;
      parts = c.in_ok-k.ensures;
    } in
    told_is (line_seen_lem seen c.bytes_of.ensures)
