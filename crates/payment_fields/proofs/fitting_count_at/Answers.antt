-- payment_fields::fitting_count_at meets its contract: its bytes, then the length that it makes.
use Rattle.std.proofs.Common.{rules, eqb}
use Rattle.diskette.specs.Writing.{length_of}
use Rattle.payment_fields.proofs.fitting_count_at.Goals as goal

pub returns : goal.returns
returns c = c.tested_at.ensures (λ k. eqb (length_of k) c.args.l) (λ v b h. search rules)
