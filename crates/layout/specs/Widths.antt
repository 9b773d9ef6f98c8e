-- How wide the fields of A, C and E are, in bytes.
use Rattle.std.specs.Prelude.{ℕ, ◌+◌, List, [], ◌∷◌}

abbrev pub text : ℕ
text = 27

-- an extension part: its mark, then its text
abbrev pub mark : ℕ
mark = 2

abbrev pub part : ℕ
part = mark + text

-- the fields of A
abbrev pub A1 : ℕ
A1 = 4

abbrev pub A2 : ℕ
A2 = 1

abbrev pub A3 : ℕ
A3 = 2

abbrev pub A4 : ℕ
A4 = 8

abbrev pub A5 : ℕ
A5 = 8

abbrev pub A6 : ℕ
A6 = text

abbrev pub A7 : ℕ
A7 = 6

abbrev pub A8 : ℕ
A8 = 4

abbrev pub A9 : ℕ
A9 = 10

abbrev pub A10 : ℕ
A10 = 10

abbrev pub A11a : ℕ
A11a = 15

abbrev pub A11b : ℕ
A11b = 8

abbrev pub A11c : ℕ
A11c = 24

abbrev pub A12 : ℕ
A12 = 1

-- the fields of C
abbrev pub C1 : ℕ
C1 = 4

abbrev pub C2 : ℕ
C2 = 1

abbrev pub C3 : ℕ
C3 = 8

abbrev pub C4 : ℕ
C4 = 8

abbrev pub C5 : ℕ
C5 = 10

abbrev pub C6 : ℕ
C6 = 13

abbrev pub C7a : ℕ
C7a = 2

abbrev pub C7b : ℕ
C7b = 3

abbrev pub C8 : ℕ
C8 = 1

abbrev pub C9 : ℕ
C9 = 11

abbrev pub C10 : ℕ
C10 = 8

abbrev pub C11 : ℕ
C11 = 10

abbrev pub C12 : ℕ
C12 = 11

abbrev pub C13 : ℕ
C13 = 3

abbrev pub C14a : ℕ
C14a = text

abbrev pub C14b : ℕ
C14b = 8

abbrev pub C15 : ℕ
C15 = text

abbrev pub C16 : ℕ
C16 = text

abbrev pub C17a : ℕ
C17a = 1

abbrev pub C17b : ℕ
C17b = 2

abbrev pub C18 : ℕ
C18 = 2

-- the fields of E
abbrev pub E1 : ℕ
E1 = 4

abbrev pub E2 : ℕ
E2 = 1

abbrev pub E3 : ℕ
E3 = 5

abbrev pub E4 : ℕ
E4 = 7

abbrev pub E5 : ℕ
E5 = 13

abbrev pub E6 : ℕ
E6 = 17

abbrev pub E7 : ℕ
E7 = 17

abbrev pub E8 : ℕ
E8 = 13

abbrev pub E9 : ℕ
E9 = 51

-- the widths of all fields, in the order of the record
abbrev pub widths_of_a : List ℕ
widths_of_a = A1 ∷ A2 ∷ A3 ∷ A4 ∷ A5 ∷ A6 ∷ A7 ∷ A8 ∷ A9 ∷ A10 ∷ A11a ∷ A11b ∷ A11c ∷ A12 ∷ []

abbrev pub widths_of_c : List ℕ
widths_of_c = C1 ∷ C2 ∷ C3 ∷ C4 ∷ C5 ∷ C6 ∷ C7a ∷ C7b ∷ C8 ∷ C9 ∷ C10 ∷ C11 ∷ C12 ∷ C13 ∷ C14a ∷ C14b ∷ C15 ∷ C16 ∷ C17a ∷ C17b ∷ C18 ∷ []

abbrev pub widths_of_e : List ℕ
widths_of_e = E1 ∷ E2 ∷ E3 ∷ E4 ∷ E5 ∷ E6 ∷ E7 ∷ E8 ∷ E9 ∷ []
