-- checker::check meets its contract: one file from the first byte on, and nothing behind it.
use mathlib.Core.Path.{◌∙◌}
use borrow.Author.Tests.{le-leb, lt-leb}
use Rattle.checker.proofs.CheckLaws.{check_late, check_over, check_refused}
use Rattle.checker.proofs.check.Goals as goal

pub returns-in-Err : goal.returns-in-Err
returns-in-Err c = c.from.ensures ∙ check_refused _ c.file_at.ensures c.in-Err.is

pub returns-then-s-file : goal.returns-then-s-file
returns-then-s-file c = rw (c.from-then-s-file.ensures, c.refuse.ensures) (check_late _ c.file_at.ensures c.in-Ok.is (lt-leb _ _ c.if-s-file.true))

pub returns : goal.returns
returns c = check_over _ c.file_at.ensures c.in-Ok.is (le-leb _ _ c.if-s-file.false)
