-- finder::start_of meets its contract: from one payment to the next, n times.
use Rattle.diskette.specs.Answer.{answer, payments_of}
use Rattle.layout.proofs.StepLaws.{Passing}
use Rattle.loader.specs.Columns.{starts}
use Rattle.finder.proofs.LoopLaws.{Ahead}
use Rattle.finder.proofs.start_of.Given as goal

abbrev pub invariant-loop-row : goal.invariant-loop-row
invariant-loop-row l = Passing l.s (Ahead (starts (payments_of (answer l.s)))) l._row l.p
