-- composer::record::lay_payment meets its contract: what C has of its own, then the numbers of the line, then its other fields.
use Rattle.composer.proofs.PutLaws.{payment_first, numbers_inside, numbers_put}
use Rattle.composer.proofs.record.lay_payment.Goals as goal

pub put_numbers-requires : goal.put_numbers-requires
put_numbers-requires c =
    let p = c.requires in
    let h = payment_first p.0 p.1.0 c.own_of_c.ensures in
    (h, numbers_inside h)

pub put_fields-requires : goal.put_fields-requires
put_fields-requires c =
    let p = c.requires in
    numbers_put (payment_first p.0 p.1.0 c.own_of_c.ensures) c.put_numbers.ensures
