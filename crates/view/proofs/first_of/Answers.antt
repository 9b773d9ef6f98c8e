-- view::first_of meets its contract: the test says which of the two verdicts it takes.
use borrow.Author.Tests.{eq-eqb, ne_eqb}
use Rattle.view.specs.Views.{first_of}
use Rattle.view.proofs.first_of.Goals as goal

pub returns-then-a-eq0 : goal.returns-then-a-eq0
unfolding first_of
returns-then-a-eq0 c = rw (eq-eqb _ _ c.if-a-eq0.true)

pub returns : goal.returns
unfolding first_of
returns c = rw (ne_eqb _ _ c.if-a-eq0.false)
