-- Verdicts: what a call gives back of its input, whatever the call, and the numbers of a form's refusals.
use Rattle.std.specs.Prelude.{ℕ, Bool, eqb}
use Rattle.form.specs.Reader.{Reason, short, not_fixed, not_digit, not_sign, breaks, surplus, Refusal}
use Rattle.verdict.specs.declared.Verdict.{Verdict}

-- accepted is 0 at 0
abbrev pub accepting : Verdict
accepting = record { number = 0; place = 0 }

-- refused with a number at a place
abbrev pub refusing : ℕ → ℕ → Verdict
refusing number place = record { number = number; place = place }

abbrev pub is_accepted : Verdict → Bool
is_accepted v = eqb v.number 0

-- ---- what a form's reader refuses

-- the number given back; the rules of the form bring their own
unfoldable pub number_of : Reason → ℕ
number_of short = 1
number_of not_fixed = 2
number_of not_digit = 3
number_of not_sign = 4
number_of (breaks n) = n
number_of surplus = 15

-- the number of the reason, at the field's first byte
abbrev pub refused_as : {N : Type 0} → Refusal N → Verdict
refused_as r = refusing (number_of r.reason) r.place
