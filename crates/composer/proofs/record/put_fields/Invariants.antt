-- composer::record::put_fields meets its contract: field after field is put where it stands in the record.
use Prim.Native.Nat.{◌<◌}
use mathlib.Core.Path.{◌≡◌}
use lib.ListN.{take}
use Rattle.listing.specs.Records.{lay}
use Rattle.layout.specs.Cells.{record_of}
use Rattle.composer.specs.Writing.{Layable}
use Rattle.composer.proofs.FormLaws.{fields_of}
use Rattle.composer.proofs.record.put_fields.Given as goal

abbrev pub invariant-loop-i : goal.invariant-loop-i
invariant-loop-i l = (l.i < l.n → Layable l.head l.k l.n l.x l.out l.i l.q) × (l.out ≡ lay (record_of l.head l.k) (take l.i (fields_of l.x)))
