-- Where the fields of A, C and E stand, from the first byte of the record: each behind the one before it.
use Rattle.std.specs.Prelude.{ℕ, ◌+◌, List, [], ◌∷◌}
use Rattle.layout.specs.Widths as width

-- the fields of A
abbrev pub A1 : ℕ
A1 = 0

abbrev pub A2 : ℕ
A2 = A1 + width.A1

abbrev pub A3 : ℕ
A3 = A2 + width.A2

abbrev pub A4 : ℕ
A4 = A3 + width.A3

abbrev pub A5 : ℕ
A5 = A4 + width.A4

abbrev pub A6 : ℕ
A6 = A5 + width.A5

abbrev pub A7 : ℕ
A7 = A6 + width.A6

abbrev pub A8 : ℕ
A8 = A7 + width.A7

abbrev pub A9 : ℕ
A9 = A8 + width.A8

abbrev pub A10 : ℕ
A10 = A9 + width.A9

abbrev pub A11a : ℕ
A11a = A10 + width.A10

abbrev pub A11b : ℕ
A11b = A11a + width.A11a

abbrev pub A11c : ℕ
A11c = A11b + width.A11b

abbrev pub A12 : ℕ
A12 = A11c + width.A11c

-- the fields of C
abbrev pub C1 : ℕ
C1 = 0

abbrev pub C2 : ℕ
C2 = C1 + width.C1

abbrev pub C3 : ℕ
C3 = C2 + width.C2

abbrev pub C4 : ℕ
C4 = C3 + width.C3

abbrev pub C5 : ℕ
C5 = C4 + width.C4

abbrev pub C6 : ℕ
C6 = C5 + width.C5

abbrev pub C7a : ℕ
C7a = C6 + width.C6

abbrev pub C7b : ℕ
C7b = C7a + width.C7a

abbrev pub C8 : ℕ
C8 = C7b + width.C7b

abbrev pub C9 : ℕ
C9 = C8 + width.C8

abbrev pub C10 : ℕ
C10 = C9 + width.C9

abbrev pub C11 : ℕ
C11 = C10 + width.C10

abbrev pub C12 : ℕ
C12 = C11 + width.C11

abbrev pub C13 : ℕ
C13 = C12 + width.C12

abbrev pub C14a : ℕ
C14a = C13 + width.C13

abbrev pub C14b : ℕ
C14b = C14a + width.C14a

abbrev pub C15 : ℕ
C15 = C14b + width.C14b

abbrev pub C16 : ℕ
C16 = C15 + width.C15

abbrev pub C17a : ℕ
C17a = C16 + width.C16

abbrev pub C17b : ℕ
C17b = C17a + width.C17a

abbrev pub C18 : ℕ
C18 = C17b + width.C17b

-- the parts of a payment begin behind C18
abbrev pub parts : ℕ
parts = C18 + width.C18

-- the fields of E
abbrev pub E1 : ℕ
E1 = 0

abbrev pub E2 : ℕ
E2 = E1 + width.E1

abbrev pub E3 : ℕ
E3 = E2 + width.E2

abbrev pub E4 : ℕ
E4 = E3 + width.E3

abbrev pub E5 : ℕ
E5 = E4 + width.E4

abbrev pub E6 : ℕ
E6 = E5 + width.E5

abbrev pub E7 : ℕ
E7 = E6 + width.E6

abbrev pub E8 : ℕ
E8 = E7 + width.E7

abbrev pub E9 : ℕ
E9 = E8 + width.E8

-- the places of all fields, in the order of the record
abbrev pub places_of_a : List ℕ
places_of_a = A1 ∷ A2 ∷ A3 ∷ A4 ∷ A5 ∷ A6 ∷ A7 ∷ A8 ∷ A9 ∷ A10 ∷ A11a ∷ A11b ∷ A11c ∷ A12 ∷ []

abbrev pub places_of_c : List ℕ
places_of_c = C1 ∷ C2 ∷ C3 ∷ C4 ∷ C5 ∷ C6 ∷ C7a ∷ C7b ∷ C8 ∷ C9 ∷ C10 ∷ C11 ∷ C12 ∷ C13 ∷ C14a ∷ C14b ∷ C15 ∷ C16 ∷ C17a ∷ C17b ∷ C18 ∷ []

abbrev pub places_of_e : List ℕ
places_of_e = E1 ∷ E2 ∷ E3 ∷ E4 ∷ E5 ∷ E6 ∷ E7 ∷ E8 ∷ E9 ∷ []
