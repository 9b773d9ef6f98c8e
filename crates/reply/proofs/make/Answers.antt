-- reply::make meets its contract: an input too long is answered by a line, any other by how the call ends, which writes exactly where its number is 0.
use native.Mathlib.Omega.{arith}
use Rattle.listing.specs.Composing.{compose}
use Rattle.listing.specs.Endings.{composed}
use Rattle.listing.proofs.Promises.{composes_exactly}
use Rattle.composer.proofs.CallLaws.{made_ends}
use Rattle.composer.proofs.Promises.{composes_exactly_where}
use Rattle.output.proofs.EndingLaws.{Says as EndingSays}
use Rattle.reply.proofs.ReplyLaws.{print_too_long, print_end}
use Rattle.reply.proofs.make.Goals as goal

pub returns-then-l-gt-LONGEST : goal.returns-then-l-gt-LONGEST
returns-then-l-gt-LONGEST c =
    let a = c.args in
    let line = c.refusal_line.ensures in
    let said = print_too_long a.l.now a.out.now (composed (compose a.l.now)) (omega (arith, c.if-l-gt-LONGEST.true)) (line.answer, line.out) in
    record { answer = said.0; out = said.1 }

pub returns : goal.returns
returns c =
    let a = c.args in
    let told : EndingSays (composed (compose a.l.now)) a.out.now c.compose-made.result c.compose-made.new.out = (c.compose-made.ensures.answer, c.compose-made.ensures.out) in
    let print = c.printed.ensures in
    let said = print_end a.l.now a.out.now (composed (compose a.l.now)) c.if-l-gt-LONGEST.false told
    (λ z. let x = (composes_exactly_where a.l.now a.out.now _ _ told).0 z in (_, made_ends ((composes_exactly a.l.now x.0).1 (x.1, x.2)), x.3)) print.accepted print.refused in
    record { answer = said.0; out = said.1 }
