-- composer::record::own_of_a meets its contract: what A has of its own is written into blanks.
use Rattle.composer.proofs.OwnLaws.{own_a}
use Rattle.composer.proofs.record.own_of_a.Goals as goal

pub returns : goal.returns
returns c =
    own_a c.requires c.blank.ensures c.put.ensures c.put-2.ensures c.put-3.ensures
