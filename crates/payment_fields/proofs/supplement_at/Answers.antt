-- payment_fields::supplement_at meets its contract: its bytes, then the supplements of the key.
use Rattle.std.proofs.Common.{rules}
use Rattle.document.specs.Rules.{supplement_ok}
use Rattle.payment_fields.proofs.supplement_at.Goals as goal

pub returns : goal.returns
returns c = c.tested_at.ensures (supplement_ok c.args.key) (λ v b h. search rules)
