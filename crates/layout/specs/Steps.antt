-- From payment to payment of a file: where the first stands, and what C18 tells of the payment at a place.
use Rattle.std.specs.Prelude.{ℕ, ◌+◌, List}
use Rattle.form.specs.Kind.{digits}
use Rattle.form.specs.Reader.{Look, has, lacks}
use Rattle.form.specs.Place.{look_at}
use Rattle.layout.specs.Places as place
use Rattle.layout.specs.Widths as width

-- a section: A and E have one, a C has two at least
abbrev pub section_bytes : ℕ
section_bytes = 128

-- where the first payment stands: behind A
abbrev pub first_payment : ℕ
first_payment = section_bytes

-- a number that was looked for; 0 where there is none
unfoldable pub or_nothing : Look ℕ → ℕ
or_nothing (has n) = n
or_nothing (lacks z) = 0

-- the number of parts of the payment at p
abbrev pub parts_at : List ℕ → ℕ → ℕ
parts_at f p = or_nothing (look_at (digits width.C18) f (p + place.C18))
