-- reply::digits_in ends: each call has a tenth of the number.
use Rattle.reply.proofs.+digits_in.Given as goal

abbrev pub decreases-digits_in : goal.decreases-digits_in
decreases-digits_in l = l.v
