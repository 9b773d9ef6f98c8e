-- Small laws of tests: what a test that holds says of its parts.
use mathlib.Core.Path.{◌≡◌, refl, sym, subst}
use mathlib.Core.Logic.{◌⊎◌, inl, inr}
use mathlib.Core.Bool.{Bool, true, false, ◌&&◌, ◌||◌, not}
use lib.Dec.{T}

pub is_true : (b : Bool) → T b → b ≡ true
is_true true t = refl
is_true false t = absurd t

pub T_of : {b : Bool} → b ≡ true → T b
T_of e = subst T (sym e) tt

pub and_both : (a b : Bool) → T (a && b) → T a × T b
and_both true b t = (tt, t)
and_both false b t = absurd t

pub and_of : (a b : Bool) → T a → T b → T (a && b)
and_of true b s t = t
and_of false b s t = absurd s

pub or_cases : (a b : Bool) → T (a || b) → T a ⊎ T b
or_cases true b t = inl tt
or_cases false b t = inr t

pub or_left : (a b : Bool) → T a → T (a || b)
or_left true b t = tt
or_left false b t = absurd t

pub or_right : (a b : Bool) → T b → T (a || b)
or_right true b t = tt
or_right false b t = t

pub or_first : (a : Bool) → T (a || false) → T a
or_first true t = tt
or_first false t = absurd t

-- where the first does not hold, the second does
pub or_other : (a b : Bool) → T (not a) → T (a || b) → T b
or_other true b n t = absurd n
or_other false b n t = t
