-- dtaus::text_named meets its contract: each number but the first three names a part.
use native.Mathlib.Omega.{arith}
use Rattle.dtaus.proofs.NamingLaws.{names_c14a, names_c15, names_c16, names_part}
use Rattle.dtaus.proofs.text_named.Goals as goal

pub returns-in-0 : goal.returns-in-0
returns-in-0 c = names_c14a c.in-0.is

pub returns-in-1 : goal.returns-in-1
returns-in-1 c = names_c15 c.in-1.is

pub returns-in-2 : goal.returns-in-2
returns-in-2 c = names_c16 c.in-2.is

pub returns-in_default : goal.returns-in_default
returns-in_default c = names_part c.args.wanted (λ e. omega arith) (λ e. omega arith) (λ e. omega arith)
