use Rattle.std.proofs.Common.{◌≡◌, ◌+◌, ◌-◌, ◌<◌, add-one, arith, rules}
use Rattle.diskette.specs.Fields.{mark_rules}
use Rattle.parts.proofs.Laws.{mark_inside, mark_passed, mark_refused, words_inside, words_passed, words_refused}
use Rattle.parts.proofs.Steps.{part_steps, parts_over}
use Rattle.parts.proofs.read_parts.Goals as goal

pub returns-in_default : goal.returns-in_default
returns-in_default c =
    let more : 0 < c.args.k - c.loop-i.i = omega arith in
    rw (c.loop-i.invariant, part_steps) (grind rules)

pub returns-in_default-m : goal.returns-in_default-m
returns-in_default-m c =
    let l = c.loop-i in
    let part = c.part_at-part in
    let more : 0 < c.args.k - l.i = omega arith in
    let m = mark_refused c.args.s.now part.result.now c.in-Ok.start part.ensures (mark_rules l.room (c.args.k - l.i - 1)) c.mark_in-m.ensures c.in_default-m.is in
    rw (l.invariant, part_steps, ← c.closing_before-closed.ensures, c.in-Ok.is, m, c.why.ensures, c.in_default-m.is)

pub overflow_add-text : goal.overflow_add-text
overflow_add-text c =
    let l = c.loop-i in
    let part = c.part_at-part in
    omega (arith, mark_inside c.args.s.now part.result.now c.in-Ok.start part.ensures (mark_rules l.room (c.args.k - l.i - 1)) c.mark_in-m.ensures c.in-Ok-m.is)

pub returns-in_default-w : goal.returns-in_default-w
returns-in_default-w c =
    let l = c.loop-i in
    let part = c.part_at-part in
    let more : 0 < c.args.k - l.i = omega arith in
    let m = mark_passed c.args.s.now part.result.now c.in-Ok.start part.ensures (mark_rules l.room (c.args.k - l.i - 1)) c.mark_in-m.ensures c.in-Ok-m.is in
    let w = words_refused c.args.s.now part.result.now c.in-Ok.start part.ensures c.words_in-w.ensures c.in_default-w.is in
    rw (l.invariant, part_steps, ← c.closing_before-closed.ensures, c.in-Ok.is, m, w, c.why-in_default-w.ensures, c.in_default-w.is)

pub overflow_add-p : goal.overflow_add-p
overflow_add-p c =
    let part = c.part_at-part in
    omega (arith, words_inside c.args.s.now part.result.now c.in-Ok.start part.ensures c.words_in-w.ensures c.in-Ok-w.is)

pub loop-i-preserved : goal.loop-i-preserved
loop-i-preserved c =
    let l = c.loop-i in
    let part = c.part_at-part in
    let more : 0 < c.args.k - l.i = omega arith in
    let m = mark_passed c.args.s.now part.result.now c.in-Ok.start part.ensures (mark_rules l.room (c.args.k - l.i - 1)) c.mark_in-m.ensures c.in-Ok-m.is in
    let w = words_passed c.args.s.now part.result.now c.in-Ok.start part.ensures c.words_in-w.ensures c.in-Ok-w.is in
    let left : c.args.k - (l.i + 1) ≡ c.args.k - l.i - 1 = omega arith in
    let turn = part_steps l.i l.room c.args.s.now l.p (c.args.k - l.i) more in
    rw (l.invariant, turn, ← c.closing_before-closed.ensures, c.in-Ok.is, m, w, c.room_after-room.ensures, left, add-one l.i)

pub returns : goal.returns
returns c =
    let l = c.loop-i in
    let over : l.i ≡ c.args.k = omega arith in
    let none : c.args.k - l.i ≡ 0 = omega arith in
    rw (c.closing_behind.ensures, l.invariant, parts_over, over)
