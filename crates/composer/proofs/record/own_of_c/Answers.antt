-- composer::record::own_of_c meets its contract: what C has of its own is written into blanks.
use Rattle.composer.proofs.OwnLaws.{own_c}
use Rattle.composer.proofs.record.own_of_c.Goals as goal

pub returns : goal.returns
returns c =
    let p = c.requires in
    own_c p.0 p.1 c.blank.ensures c.put_number.ensures c.put.ensures c.put_number-2.ensures c.put-2.ensures
    c.put_number-3.ensures
