-- composer::record::lay_header meets its contract: what A has of its own, then the fields of the line.
use mathlib.Core.Path.{refl}
use Rattle.composer.proofs.PutLaws.{put_first}
use Rattle.composer.proofs.record.lay_header.Goals as goal

pub put_fields-requires : goal.put_fields-requires
put_fields-requires c =
    put_first c.requires.0 refl c.own_of_a.ensures
