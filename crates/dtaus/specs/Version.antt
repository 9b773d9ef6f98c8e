-- The version of the library, which `DTAUS_VERSION` of the header names too.
use Rattle.std.specs.Prelude.{ℕ}

-- one more with each change of an answer, a figure or a call
abbrev pub version : ℕ
version = 3
