-- The rules of A11b give a date the number of the case that it is in.
use mathlib.Core.Path.{◌≡◌, refl}
use mathlib.Core.Bool.{Bool, true, false, cond}
use mathlib.Core.List.{[], ◌∷◌}
use mathlib.Core.Option.{some}
use Rattle.form.specs.Form.{rule}
use Rattle.form.specs.Reader.{Look, has, lacks, breaks, obey}
use Rattle.document.specs.Calendar.{Day, is_day, not_too_early, not_too_late, DateCase, in_order, no_such_day, too_early, too_late, date_case}
use Rattle.diskette.specs.Fields.{date_number, execution_rules}

-- what is read in each case: the value in order, else the case's number
abbrev pub judged : {X : Type 0} → DateCase → X → Look X
judged in_order v = has v
judged no_such_day v = lacks (breaks (date_number no_such_day))
judged too_early v = lacks (breaks (date_number too_early))
judged too_late v = lacks (breaks (date_number too_late))

pub date_judged : {X : Type 0} (made d : Day) (v : X) → obey (execution_rules made (some d)) v ≡ judged (date_case made d) v
unfolding date_case
date_judged made d v = by (is_day d) (not_too_early made d) (not_too_late made d)
  where
    by : (day early late : Bool)
        → obey (rule (date_number no_such_day) day ∷ rule (date_number too_early) early ∷ rule (date_number too_late) late ∷ []) v
        ≡ judged (cond day (cond early (cond late in_order too_late) too_early) no_such_day) v
    by false early late = refl
    by true false late = refl
    by true true false = refl
    by true true true = refl
