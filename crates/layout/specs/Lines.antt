-- Where the numbers of a payment's line stand, from the line's first byte: behind the letter, and each behind the one before it and a tab.
use Rattle.std.specs.Prelude.{ℕ, ◌+◌, List, [], ◌∷◌}
use Rattle.layout.specs.Widths as width

-- the first field of a line stands behind its letter and a tab
abbrev pub first : ℕ
first = 2

abbrev pub C3 : ℕ
C3 = first

abbrev pub C4 : ℕ
C4 = C3 + width.C3 + 1

abbrev pub C5 : ℕ
C5 = C4 + width.C4 + 1

abbrev pub C6 : ℕ
C6 = C5 + width.C5 + 1

abbrev pub C7a : ℕ
C7a = C6 + width.C6 + 1

abbrev pub C7b : ℕ
C7b = C7a + width.C7a + 1

abbrev pub C10 : ℕ
C10 = C7b + width.C7b + 1

abbrev pub C11 : ℕ
C11 = C10 + width.C10 + 1

abbrev pub C12 : ℕ
C12 = C11 + width.C11 + 1

-- the tab behind the last number, with which the texts begin
abbrev pub tab_of_texts : ℕ
tab_of_texts = C12 + width.C12

-- where the first text stands
abbrev pub texts : ℕ
texts = tab_of_texts + 1

-- the places of all numbers, in the order of the line
abbrev pub numbers_of_line : List ℕ
numbers_of_line = C3 ∷ C4 ∷ C5 ∷ C6 ∷ C7a ∷ C7b ∷ C10 ∷ C11 ∷ C12 ∷ []
