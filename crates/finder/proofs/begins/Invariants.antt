-- finder::begins meets its contract: from one payment to the next, until one begins at the start.
use Rattle.diskette.specs.Answer.{answer, payments_of}
use Rattle.layout.proofs.StepLaws.{Passing}
use Rattle.finder.proofs.LoopLaws.{Sought}
use Rattle.finder.proofs.begins.Given as goal

abbrev pub invariant-loop-row : goal.invariant-loop-row
invariant-loop-row l = Passing l.s (Sought l.start (payments_of (answer l.s))) l._row l.p
