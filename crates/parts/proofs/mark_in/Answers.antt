-- parts::mark_in meets its contract: two digits, then the rule of the mark, then that of the room behind it.
use Rattle.std.proofs.Common.{sym, ◌∙◌, le-leb}
use Rattle.std.proofs.lemmas.Result.{err_from_is_err_and}
use borrow.Author.Tests.{lt-leb, not-false, not-true}
use Rattle.document.specs.Marks.{room_after}
use Rattle.diskette.specs.Fields.{mark_rules}
use Rattle.fields.specs.Answers.{numbers}
use Rattle.fields.proofs.LeafLaws.{ruled_broken, ruled_kept, ruled_refused}
use Rattle.parts.proofs.mark_in.Goals as goal

pub returns-in_err-mark : goal.returns-in_err-mark
returns-in_err-mark c =
    let a = c.args in
    let p = err_from_is_err_and c.from_residual.result c.from_residual.ensures.1 in
    rw (p.1, p.2) (ruled_refused 2 numbers (mark_rules a.room a.left) a.part.now 0 2 c.in_err-mark.ensures)

pub returns-then-not-mark_ok : goal.returns-then-not-mark_ok
returns-then-not-mark_ok c =
    let a = c.args in
    let wrong = sym c.mark_ok.ensures ∙ not-true _ c.if-not-mark_ok.true-raw in
    rw c.refuse.ensures (ruled_broken 2 numbers (mark_rules a.room a.left) a.part.now 0 2 c.in_ok-mark.ensures (rw wrong))

pub returns-then-left-room_after : goal.returns-then-left-room_after
returns-then-left-room_after c =
    let a = c.args in
    let m = c.in_ok-mark in
    let right = sym c.mark_ok.ensures ∙ not-false _ c.if-not-mark_ok.false-raw in
    let over = lt-leb a.left (room_after m.mark a.room) (rw (← c.room_after.ensures) c.if-left-room_after.true) in
    rw c.refuse-then-left-room_after.ensures (ruled_broken 2 numbers (mark_rules a.room a.left) a.part.now 0 2 m.ensures (rw (right, over)))

pub returns : goal.returns
returns c =
    let a = c.args in
    let m = c.in_ok-mark in
    let right = sym c.mark_ok.ensures ∙ not-false _ c.if-not-mark_ok.false-raw in
    let fit = le-leb a.left (room_after m.mark a.room) (rw (← c.room_after.ensures) c.if-left-room_after.false) in
    ruled_kept 2 numbers (mark_rules a.room a.left) a.part.now 0 2 m.ensures (rw (right, fit))
