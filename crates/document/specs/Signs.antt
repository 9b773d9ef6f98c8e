-- Signs as bytes: quoted words, zeros, and the signs that a text may hold.
use Rattle.std.specs.Prelude.{ℕ, Bool, ◌&&◌, ◌||◌, not, List, [], ◌∷◌, replicate, leb, eqb}
use Prim.Native.Char.{code}
use Prim.Native.String.{String}
use Rattle.form.specs.Kind.{every, one_of, digit}

-- the bytes of a quoted word
abbrev pub ascii : String → List ℕ
ascii String.[] = []
ascii (String.◌∷◌ c s) = code c ∷ ascii s

abbrev pub zeros : ℕ → List ℕ
zeros n = replicate n 0x30

abbrev pub capital : ℕ → Bool
capital b = leb 0x41 b && leb b 0x5A

-- blank, full stop, comma, and, hyphen, slash, plus, star, dollar, per cent
abbrev pub special_signs : List ℕ
special_signs = 0x20 ∷ 0x2E ∷ 0x2C ∷ 0x26 ∷ 0x2D ∷ 0x2F ∷ 0x2B ∷ 0x2A ∷ 0x24 ∷ 0x25 ∷ []

abbrev pub umlauts : List ℕ
umlauts = 0x5B ∷ 0x5C ∷ 0x5D ∷ 0x7E ∷ []

-- the permitted signs: digits, capitals, the special signs, the umlauts
abbrev pub sign : ℕ → Bool
sign b = digit b || (capital b || (one_of special_signs b || one_of umlauts b))

abbrev pub not_all_blank : List ℕ → Bool
not_all_blank t = not (every (λ b. eqb b 0x20) t)
