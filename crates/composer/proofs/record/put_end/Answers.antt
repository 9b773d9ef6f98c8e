-- composer::record::put_end meets its contract: the figures are put into what E has of its own.
use Rattle.composer.proofs.OwnLaws.{end_written}
use Rattle.composer.proofs.record.put_end.Goals as goal

pub returns : goal.returns
returns c =
    let p = c.requires in
    end_written p.0 p.1 c.blank.ensures c.put.ensures c.put-2.ensures c.put_number.ensures c.put_number-2.ensures
    c.put_number-3.ensures c.put_number-4.ensures c.put_number-5.ensures
