-- line_reader::part_at meets its contract: a tab and a mark that may stand, and a text.
use mathlib.Core.Path.{sym, ◌∙◌}
use borrow.Author.Tests.{not-true, not-false}
use Rattle.line_reader.proofs.KeptLaws.{ok_some, no_number}
use Rattle.line_reader.proofs.SeenLaws.{part_seen, part_not_so, part_no_text}
use Rattle.line_reader.proofs.part_at.Goals as goal

pub returns-then-l-q-ne-TAB : goal.returns-then-l-q-ne-TAB
returns-then-l-q-ne-TAB c = λ part p. c.if-l-q-ne-TAB.true p.tab

pub returns-in_err-mark : goal.returns-in_err-mark
returns-in_err-mark c = rw c.from_residual.ensures (λ part p. no_number _ _ _ c.number_at.ensures c.in_err-mark.ensures.value p.number)

pub returns-then-not-mark_ok : goal.returns-then-not-mark_ok
returns-then-not-mark_ok c = part_not_so _ _ c.number_at.ensures (ok_some _ c.in_ok-mark.ensures.value) (sym c.mark_ok.ensures ∙ not-true _ c.if-not-mark_ok.true-raw)

pub returns-in_err-e : goal.returns-in_err-e
returns-in_err-e c = rw c.from_residual-in_err-e.ensures (part_no_text _ _ c.number_at.ensures (ok_some _ c.in_ok-mark.ensures.value) c.in_err-e.ensures)

pub returns : goal.returns
returns c =
    part_seen _ _ c.number_at.ensures (ok_some _ c.in_ok-mark.ensures.value) c.if-l-q-ne-TAB.false (sym c.mark_ok.ensures ∙ not-false _ c.if-not-mark_ok.false-raw)
    c.in_ok-e.ensures
