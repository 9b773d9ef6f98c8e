use native.Mathlib.Omega.{arith}
use mathlib.Core.Path.{◌∙◌}
use Rattle.medium.proofs.Laws.{going_first, going_refused, file_between, going_ends, going_more}
use Rattle.medium.proofs.check_medium.Goals as goal

pub loop-file-init : goal.loop-file-init
loop-file-init c = going_first _

pub returns-in-Err : goal.returns-in-Err
returns-in-Err c = c.from.ensures ∙ going_refused c.loop-file.invariant c.file_at.ensures c.in-Err.is

pub overflow_add-files : goal.overflow_add-files
overflow_add-files c =
    let g = c.loop-file.invariant in
    let b = file_between g c.file_at.ensures c.in-Ok.is in
    record { fits = omega (arith, g.few_files, b.0, b.1) }

pub overflow_add-payments : goal.overflow_add-payments
overflow_add-payments c =
    let g = c.loop-file.invariant in
    let b = file_between g c.file_at.ensures c.in-Ok.is in
    record { fits = omega (arith, g.few_payments, b.0, b.1) }

pub returns-then-file-s : goal.returns-then-file-s
returns-then-file-s c = going_ends c.loop-file.invariant c.file_at.ensures c.in-Ok.is c.if-file-s.true

pub loop-file-smaller : goal.loop-file-smaller
loop-file-smaller c =
    let b = file_between c.loop-file.invariant c.file_at.ensures c.in-Ok.is in
    omega (arith, b.0, b.1, c.if-file-s.false)

pub loop-file-preserved : goal.loop-file-preserved
loop-file-preserved c = going_more c.loop-file.invariant c.file_at.ensures c.in-Ok.is c.if-file-s.false
