-- The text that a number names, case by case.
use Prim.Native.Nat.{ℕ, zero, suc, ◌-◌}
use native.Mathlib.Omega.{arith}
use mathlib.Core.Path.{◌≡◌, refl, sym, ap}
use mathlib.Core.Logic.{◌≢◌}
use Rattle.finder.specs.declared.Wanted.TheVariants.{C14a, C15, C16, Part as PartText}
use Rattle.dtaus.specs.Calls.{text_named}

module _ {n : ℕ} where
  pub names_c14a : n ≡ 0 → C14a ≡ text_named n
  unfolding text_named
  names_c14a e = sym (ap text_named e)

  pub names_c15 : n ≡ 1 → C15 ≡ text_named n
  unfolding text_named
  names_c15 e = sym (ap text_named e)

  pub names_c16 : n ≡ 2 → C16 ≡ text_named n
  unfolding text_named
  names_c16 e = sym (ap text_named e)

pub names_part : (n : ℕ) → n ≢ 0 → n ≢ 1 → n ≢ 2 → PartText (n - 2) ≡ text_named n
unfolding text_named
names_part zero a b c = absurd (a refl)
names_part (suc zero) a b c = absurd (b refl)
names_part (suc (suc zero)) a b c = absurd (c refl)
names_part (suc (suc (suc i))) a b c = ap PartText (omega arith)
