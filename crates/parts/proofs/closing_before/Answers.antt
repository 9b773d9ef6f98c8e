-- parts::closing_before meets its contract: 11 blanks, 12, or none.
use native.Mathlib.Omega.{arith}
use mathlib.Core.Path.{◌∙◌}
use Rattle.diskette.specs.Writing.{section, to_next_part}
use Rattle.parts.proofs.Laws.{closing_none, closing_some, eleven, none_between, twelve}
use Rattle.parts.proofs.closing_before.Goals as goal

pub returns-then-i-eq2 : goal.returns-then-i-eq2
returns-then-i-eq2 c = let a = c.args in rw (eleven a.i c.if-i-eq2.true) (c.blanks_at.ensures ∙ closing_some (section a.i) _ _ 11 (λ e. omega arith))

pub returns-then-i : goal.returns-then-i
returns-then-i c = let a = c.args in rw (twelve a.i c.if-i.true) (c.blanks_at-then-i.ensures ∙ closing_some (section a.i) _ _ 12 (λ e. omega arith))

pub returns : goal.returns
returns c = let a = c.args in closing_none (section a.i) _ _ (to_next_part a.i) (none_between a.i c.if-i-eq2.false c.if-i.false)
