-- The numbers that the calls can give besides 0, one list for each. A change that brings a number adds it here.
use Rattle.std.specs.Prelude.{ℕ, List, [], ◌∷◌, ◌++◌}

-- ---- what an input is refused with, whatever is done with it

-- a file
abbrev pub of_file : List ℕ
of_file = 1 ∷ 2 ∷ 3 ∷ 4 ∷ 5 ∷ 6 ∷ 7 ∷ 8 ∷ 9 ∷ 10 ∷ 11 ∷ 12 ∷ 13 ∷ 14 ∷ 15 ∷ 21 ∷ 22 ∷ 23 ∷ []

-- a medium of files: those of a file but 15, since what follows an E is the next file
abbrev pub of_medium : List ℕ
of_medium = 1 ∷ 2 ∷ 3 ∷ 4 ∷ 5 ∷ 6 ∷ 7 ∷ 8 ∷ 9 ∷ 10 ∷ 11 ∷ 12 ∷ 13 ∷ 14 ∷ 21 ∷ 22 ∷ 23 ∷ []

-- a listing: its records are whole, C1 is made, and there is no E; but a line has a form, and lines can be missing
abbrev pub of_listing : List ℕ
of_listing = 2 ∷ 3 ∷ 4 ∷ 6 ∷ 7 ∷ 8 ∷ 9 ∷ 10 ∷ 11 ∷ 12 ∷ 13 ∷ 17 ∷ 18 ∷ 21 ∷ 22 ∷ 23 ∷ []

-- ---- what a call gives

abbrev pub of_check : List ℕ
of_check = of_file

-- besides the file's refusals: a column is too short
abbrev pub of_load : List ℕ
of_load = of_file ++ (16 ∷ [])

abbrev pub of_check_medium : List ℕ
of_check_medium = of_medium

-- besides the medium's refusals: a column or the table of files is too short
abbrev pub of_load_medium : List ℕ
of_load_medium = of_medium ++ (16 ∷ [])

-- besides the file's refusals: the output is too short
abbrev pub of_list : List ℕ
of_list = of_file ++ (16 ∷ [])

-- besides the listing's refusals: the output is too short
abbrev pub of_compose : List ℕ
of_compose = of_listing ++ (16 ∷ [])

-- of finding, locating and the view, besides the file's refusals: there is no such payment, or it has no such text
abbrev pub of_view : List ℕ
of_view = of_file ++ (19 ∷ [])

-- of a call from C, besides the numbers of the call beneath: the result, which is lent too, is too short
abbrev pub from_c : List ℕ → List ℕ
from_c numbers = 16 ∷ numbers
