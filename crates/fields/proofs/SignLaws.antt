-- The permitted signs as ranges of bytes.
use Rattle.std.proofs.Common.{◌≡◌, ℕ, ◌<◌, Bool, ◌&&◌, ◌||◌, eqb, leb, refl}
use Rattle.form.proofs.BelowLaws.{below, agree}
use Rattle.document.specs.Signs.{sign}

-- the ranges of bytes that the code tests
abbrev pub ranges : ℕ → Bool
ranges b =
    (((eqb b 0x20 || (leb 0x24 b && leb b 0x26)) || (leb 0x2A b && leb b 0x39)) || (leb 0x41 b && leb b 0x5D)) || eqb b 0x7E

pub ranges_are_signs : (b : ℕ) → b < 256 → ranges b ≡ sign b
unfolding below
ranges_are_signs b h = agree ranges sign 256 b refl h
