-- composer::record::put_field meets its contract: byte after byte up to the next tab, or to the line's end.
use Rattle.composer.proofs.PutLaws.{Copying}
use Rattle.composer.proofs.record.put_field.Given as goal

abbrev pub invariant-loop-i : goal.invariant-loop-i
invariant-loop-i l = Copying l.x l.initial.out l.q l.p l.out l.i
