-- Lines of fields: fields are parted by tabs, lines are ended by the byte 0A. Texts lose their trailing blanks in them.
use Rattle.std.specs.Prelude.{ℕ, Bool, true, false, ◌&&◌, cond, List, [], ◌∷◌, ◌++◌, eqb}
use Rattle.diskette.specs.Writing.{in_turn}

abbrev pub tab : ℕ
tab = 0x09

abbrev pub line_end : ℕ
line_end = 0x0A

-- ---- a line from its fields

-- a tab and a field, for each field
abbrev pub behind_tabs : List (List ℕ) → List ℕ
behind_tabs [] = []
behind_tabs (t ∷ ts) = (tab ∷ t) ++ behind_tabs ts

abbrev pub line : List ℕ → List (List ℕ) → List ℕ
line letter fields = in_turn (letter ∷ behind_tabs fields ∷ (line_end ∷ []) ∷ [])

-- ---- the pieces of a row of bytes

abbrev pub onto : ℕ → List (List ℕ) → List (List ℕ)
onto b [] = (b ∷ []) ∷ []
onto b (x ∷ xs) = (b ∷ x) ∷ xs

-- the pieces between the bytes z: one at least, perhaps empty
unfoldable pub split : ℕ → List ℕ → List (List ℕ)
split z [] = [] ∷ []
split z (b ∷ bs) = let r = split z bs in cond (eqb b z) ([] ∷ r) (onto b r)

-- ---- trailing blanks

abbrev pub empty : List ℕ → Bool
empty [] = true
empty (b ∷ bs) = false

-- a row of bytes without its trailing blanks
unfoldable pub trim : List ℕ → List ℕ
trim [] = []
trim (b ∷ bs) = let r = trim bs in cond (eqb b 0x20 && empty r) [] (b ∷ r)

-- the last byte is a blank
abbrev pub ends_in_blank : List ℕ → Bool
ends_in_blank [] = false
ends_in_blank (b ∷ []) = eqb b 0x20
ends_in_blank (b ∷ c ∷ bs) = ends_in_blank (c ∷ bs)
