-- reply::list meets its contract: an input too long is answered by a line, any other by how the call ends, which writes exactly where its number is 0.
use native.Mathlib.Omega.{arith}
use Rattle.diskette.specs.Answer.{answer}
use Rattle.listing.specs.Endings.{listed}
use Rattle.lister.proofs.ListingLaws.{listed_as}
use Rattle.lister.proofs.Promises.{lists_exactly}
use Rattle.output.proofs.EndingLaws.{Says as EndingSays}
use Rattle.reply.proofs.ReplyLaws.{print_too_long, print_end}
use Rattle.reply.proofs.list.Goals as goal

pub returns-then-s-gt-LONGEST : goal.returns-then-s-gt-LONGEST
returns-then-s-gt-LONGEST c =
    let a = c.args in
    let line = c.refusal_line.ensures in
    let said = print_too_long a.s.now a.out.now (listed (answer a.s.now)) (omega (arith, c.if-s-gt-LONGEST.true)) (line.answer, line.out) in
    record { answer = said.0; out = said.1 }

pub returns : goal.returns
returns c =
    let a = c.args in
    let told : EndingSays (listed (answer a.s.now)) a.out.now c.list-listed.result c.list-listed.new.out = (c.list-listed.ensures.answer, c.list-listed.ensures.out) in
    let print = c.printed.ensures in
    let said = print_end a.s.now a.out.now (listed (answer a.s.now)) c.if-s-gt-LONGEST.false told
    (λ z. let x = (lists_exactly a.s.now a.out.now _ _ told).0 z in (_, listed_as a.s.now x.0, x.1)) print.accepted print.refused in
    record { answer = said.0; out = said.1 }
