-- line_reader::numbers_at meets its contract: the tabs, and both stretches between them.
use mathlib.Core.Path.{sym, ◌∙◌}
use lib.Dec.{le→leb}
use Rattle.std.proofs.Common.{leb-true}
use borrow.Author.Tests.{not-true, not-false}
use Rattle.form.proofs.BoolLaws.{T_of}
use Rattle.line_reader.proofs.KeptLaws.{failed}
use Rattle.line_reader.proofs.numbers_at.Goals as goal

pub returns-then-not-whole : goal.returns-then-not-whole
returns-then-not-whole c = λ new n. failed (le→leb _ _ n.inside) (sym c.whole.ensures ∙ not-true _ c.if-not-whole.true-raw)

pub returns-then-not-parted : goal.returns-then-not-parted
returns-then-not-parted c = λ new n. failed (T_of n.parted) (sym c.parted.ensures ∙ not-true _ c.if-not-parted.true-raw)

pub returns-in_err-accounts : goal.returns-in_err-accounts
returns-in_err-accounts c = rw c.from_residual.ensures (λ new n. c.in_err-accounts.ensures (new.accounts, new.banks) n.receiver)

pub returns-in_err-cents : goal.returns-in_err-cents
returns-in_err-cents c = rw c.from_residual-in_err-cents.ensures (λ new n. c.in_err-cents.ensures new.cents n.amount)

pub returns : goal.returns
returns c =
    record {
      inside = leb-true _ _ (sym c.whole.ensures ∙ not-false _ c.if-not-whole.false-raw);
      parted = sym c.parted.ensures ∙ not-false _ c.if-not-parted.false-raw;
      receiver = c.in_ok-accounts.ensures;
      amount = c.in_ok-cents.ensures;
    }
