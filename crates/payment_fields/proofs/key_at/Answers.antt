-- payment_fields::key_at meets its contract: its bytes, then the keys of this kind of file.
use Rattle.std.proofs.Common.{rules}
use Rattle.document.specs.Rules.{key_ok}
use Rattle.fields.specs.Answers.{letters_of}
use Rattle.payment_fields.proofs.key_at.Goals as goal

pub returns : goal.returns
returns c = c.tested_at.ensures (key_ok (letters_of c.args.kind)) (λ v b h. search rules)
