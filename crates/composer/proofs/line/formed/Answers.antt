use native.Mathlib.Omega.{arith}
use mathlib.Core.Path.{sym, ◌∙◌}
use borrow.Author.Tests.{not-true, not-false}
use Rattle.composer.proofs.FormLaws.{stand_ends, other_count, other_letter, form_first, form_not, form_more}
use Rattle.composer.proofs.line.formed.Goals as goal

pub returns-then-count_fields-n : goal.returns-then-count_fields-n
returns-then-count_fields-n c =
    other_count c.args.head c.args.n c.args.x.now c.requires (λ e. c.if-count_fields-n.true (c.count_fields.ensures ∙ e))

pub returns-then-not-begins : goal.returns-then-not-begins
returns-then-not-begins c =
    other_letter c.args.head c.args.n c.args.x.now c.requires (sym c.begins.ensures ∙ not-true _ c.if-not-begins.true-raw)

pub loop-i-init : goal.loop-i-init
loop-i-init c =
    form_first c.args.head c.args.n c.args.x.now c.requires (sym c.count_fields.ensures ∙ c.if-count_fields-n.false)
    (sym c.begins.ensures ∙ not-false _ c.if-not-begins.false-raw)

pub slice_bounds-field_formed-end : goal.slice_bounds-field_formed-end
slice_bounds-field_formed-end c = (stand_ends c.loop-i.invariant.stand (omega arith) c.field_end-e.result c.field_end-e.ensures).1

pub returns-then-not-field_formed : goal.returns-then-not-field_formed
returns-then-not-field_formed c =
    form_not c.loop-i.invariant (omega arith) c.field_end-e.result c.field_end-e.ensures c.cell_at-c.result c.cell_at-c.ensures
    (sym (not-true _ c.if-not-field_formed.true-raw) ∙ c.field_formed.ensures)

pub loop-i-preserved : goal.loop-i-preserved
loop-i-preserved c =
    form_more c.loop-i.invariant (omega arith) c.field_end-e.result c.field_end-e.ensures c.cell_at-c.result c.cell_at-c.ensures
    (sym (not-false _ c.if-not-field_formed.false-raw) ∙ c.field_formed.ensures)
