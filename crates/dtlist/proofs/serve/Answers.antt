use Rattle.std.proofs.Common.{ℕ, List, rules}
use Rattle.std.specs.Io.KnownBytes.{Appends}
use Rattle.reply.specs.Reply.{list_reply}
use Rattle.reading.proofs.Answering.{answered_start}
use Rattle.dtlist.proofs.serve.Goals as goal

pub returns : goal.returns
returns g c =
    let Printed : List ℕ → Type 0 = λ read. Appends (g.W.Write.contents c.args.writer.now) (g.W.Write.contents c.print.new.writer) (list_reply 65536 read) in
    answered_start Printed 65536 c.print.result (g.R.Read.remaining c.args.reader.now) _ _ (search rules) c.in_ok-n.ensures.input c.print.ensures
