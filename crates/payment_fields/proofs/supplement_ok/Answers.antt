-- payment_fields::supplement_ok meets its contract: the keys of each line of the table, and their supplements.
use mathlib.Core.Path.{ap, ap₂}
use mathlib.Core.Bool.{Bool, ◌&&◌, ◌||◌}
use mathlib.Core.List.{[], ◌∷◌}
use lib.Dec.{eqb}
use Rattle.payment_fields.proofs.Laws.{tried_all}
use Rattle.payment_fields.proofs.supplement_ok.Goals as goal

pub returns : goal.returns
returns c =
    let key = c.args.key in
    let v = c.args.v in
    let keys = tried_all key 4 (51 ∷ 53 ∷ []) in
    let plain = tried_all v 0 (888 ∷ []) in
    let debit = tried_all v 0 (888 ∷ 5 ∷ 6 ∷ 15 ∷ []) in
    ap₂ (λ (a b : Bool). a || b || (eqb key 56 && eqb v 0) || eqb key 54) (ap₂ ◌&&◌ keys plain) (ap (λ b. eqb key 5 && b) debit)
