-- parts::count_at meets its contract: 0 where C18 is not in the file or is no number, else what it tells.
use Rattle.std.proofs.Common.{rules, sym, ◌∙◌}
use borrow.Author.Tests.{not-true}
use Rattle.parts.proofs.CountLaws.{count_missing, count_told}
use Rattle.parts.proofs.count_at.Goals as goal

pub returns-then-not-whole : goal.returns-then-not-whole
returns-then-not-whole c = count_missing _ _ (sym c.whole.ensures ∙ not-true _ c.if-not-whole.true-raw)

pub returns : goal.returns
returns c = count_told _ _ _ _ (rw c.number_at.ensures at c.map_or.ensures) (λ v h. search rules)
