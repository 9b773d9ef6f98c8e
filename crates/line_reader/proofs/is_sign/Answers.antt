-- line_reader::is_sign meets its contract: its bits are the permitted signs, tried for every byte.
use Prim.Native.Nat.{ℕ, ◌/◌, ◌^◌, ◌<◌}
use native.Mathlib.Omega.{arith}
use mathlib.Core.Path.{◌≡◌, refl}
use mathlib.Core.Bool.{Bool, ◌&&◌, ◌||◌}
use lib.Dec.{eqb, leb, ltb}
use lib.Bits.{bit_and, mask_lt}
use Rattle.form.proofs.BelowLaws.{below, agree}
use Rattle.document.specs.Signs.{sign}
use Rattle.line_reader.proofs.is_sign.Goals as goal

abbrev told : ℕ → Bool
told b = (eqb (bit_and (0x03FF_FC71_3FFF_FFFE / 2 ^ bit_and b 63) 1) 1 && (leb 0x20 b && ltb b 0x60)) || eqb b 0x7E

are-signs : (b : ℕ) → b < 256 → told b ≡ sign b
unfolding below
are-signs b h = agree told sign 256 b refl h

low : (b : ℕ) → bit_and b 63 < 64
low b = mask_lt b 6

pub overflow_cast-in_word : goal.overflow_cast-in_word
overflow_cast-in_word c = let h = low c.args.b in omega (arith, h)

pub overflow_shr-in_word : goal.overflow_shr-in_word
overflow_shr-in_word c = low c.args.b

pub returns : goal.returns
returns c = are-signs c.args.b (omega arith)
