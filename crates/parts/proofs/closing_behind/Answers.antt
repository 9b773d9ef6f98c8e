-- parts::closing_behind meets its contract: a section never ends with its last part.
use mathlib.Core.Path.{◌∙◌, sym}
use Rattle.diskette.specs.Writing.{section}
use Rattle.parts.proofs.Laws.{closing_some, some_behind}
use Rattle.parts.proofs.closing_behind.Goals as goal

pub returns : goal.returns
returns c = let a = c.args in rw (← c.to_section_end.ensures) (c.blanks_at.ensures ∙ closing_some (section a.i) _ _ _ (λ e. some_behind a.i (sym c.to_section_end.ensures ∙ e)))
