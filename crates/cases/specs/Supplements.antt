-- Keys with supplements on both sides of each line of the table, as a file and as a listing: one list, one claim.
use Rattle.std.specs.Prelude.{ℕ, ◌≡◌, refl, List, [], ◌∷◌, ◌++◌, map, set}
use Prim.Native.String.{String}
use Rattle.diskette.specs.Cases.{file_m, put, given}
use Rattle.cases.specs.Listings.{line_of, words_a, words_c, filed}
use Rattle.cases.specs.Paired.{Paired, answers, wanted_of_both}

-- M with another kind of file, key and supplement
abbrev with_key : String → String → String → ℕ → ℕ → ℕ → Paired
with_key kind key supplement number place place_in_listing =
    record {
      file = put 5 kind (put 172 key (put 174 supplement file_m));
      listing = line_of (set words_a 1 kind) ++ line_of (set (set words_c 5 key) 6 supplement);
      number = number;
      place = place;
      place_in_listing = place_in_listing;
    }

abbrev accepted : String → String → String → Paired
accepted kind key supplement = with_key kind key supplement 0 0 0

-- refused with n at C7a
abbrev at_c7a : ℕ → String → String → String → Paired
at_c7a n kind key supplement = with_key kind key supplement n 172 110

-- refused with n at C7b
abbrev at_c7b : ℕ → String → String → String → Paired
at_c7b n kind key supplement = with_key kind key supplement n 174 113

unfoldable pub keyed : List Paired
keyed =
    -- 04, 51 and 53: 000 or 888
    accepted "LK" "04" "000"
    ∷ accepted "LB" "04" "888"
    ∷ at_c7b 21 "LK" "04" "005"
    ∷ accepted "GK" "51" "888"
    ∷ at_c7b 21 "GK" "51" "887"
    ∷ at_c7b 21 "GK" "51" "889"
    ∷ accepted "GK" "53" "000"
    ∷ accepted "GK" "53" "888"
    ∷ at_c7b 21 "GK" "53" "001"
    -- 05: 000, 888, 005, 006 or 015
    ∷ accepted "LK" "05" "000"
    ∷ accepted "LK" "05" "888"
    ∷ accepted "LK" "05" "005"
    ∷ accepted "LK" "05" "006"
    ∷ accepted "LB" "05" "015"
    ∷ at_c7b 21 "LK" "05" "051"
    ∷ at_c7b 21 "LK" "05" "007"
    -- 56: 000
    ∷ accepted "GB" "56" "000"
    ∷ at_c7b 21 "GK" "56" "888"
    -- 54: all three digits are free
    ∷ accepted "GK" "54" "000"
    ∷ accepted "GK" "54" "999"
    -- a byte that is no digit comes first, and a key that is none before it
    ∷ at_c7b 3 "GK" "51" "0X1"
    ∷ at_c7a 12 "LK" "55" "051"
    ∷ []

pub keyed_hold : map answers keyed ≡ map wanted_of_both keyed
unfolding keyed given filed
keyed_hold = refl
