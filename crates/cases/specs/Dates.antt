-- Dates on both sides of each line that the rule of dates draws, as a file and as a listing: one list, one claim.
use Rattle.std.specs.Prelude.{ℕ, ◌≡◌, refl, List, [], ◌∷◌, ◌++◌, map, set}
use Prim.Native.String.{String}
use Rattle.diskette.specs.Cases.{file_m, put, given}
use Rattle.cases.specs.Listings.{line_of, words_a, line_c, filed}
use Rattle.cases.specs.Paired.{Paired, answers, wanted_of_both}

-- M with other dates, A7 and A11b
abbrev with_dates : String → String → ℕ → ℕ → ℕ → Paired
with_dates made execution number place place_in_listing =
    record {
      file = put 50 made (put 95 execution file_m);
      listing = line_of (set (set words_a 5 made) 8 execution) ++ line_c;
      number = number;
      place = place;
      place_in_listing = place_in_listing;
    }

abbrev accepted : String → String → Paired
accepted made execution = with_dates made execution 0 0 0

-- refused with n at A7
abbrev at_a7 : ℕ → String → String → Paired
at_a7 n made execution = with_dates made execution n 50 35

-- refused with n at A11b
abbrev at_a11b : ℕ → String → String → Paired
at_a11b n made execution = with_dates made execution n 95 64

unfoldable pub dated : List Paired
dated =
    -- the day before that of creation, the day itself, 15 and 16 days after it
    at_a11b 22 "150304" "14032004"
    ∷ accepted "150304" "15032004"
    ∷ accepted "150304" "30032004"
    ∷ at_a11b 23 "150304" "31032004"
    -- 29 February
    ∷ at_a11b 10 "150304" "29021900"
    ∷ at_a11b 22 "150304" "29022000"
    ∷ at_a11b 10 "150304" "29022100"
    ∷ accepted "280200" "29022000"
    ∷ accepted "140204" "29022004"
    ∷ at_a11b 23 "140204" "01032004"
    ∷ at_a7 10 "290203" "01032003"
    -- no such day: of the year 0000, of no month, behind the month's end
    ∷ at_a11b 10 "150304" "15030000"
    ∷ at_a11b 10 "150304" "00000000"
    ∷ at_a11b 10 "150304" "15132004"
    ∷ at_a11b 10 "150304" "32032004"
    -- the first and the last day of the calendar
    ∷ at_a11b 22 "150304" "01010001"
    ∷ at_a11b 23 "150304" "31129999"
    -- across a year's end, and the two centuries of A7
    ∷ accepted "311299" "01012000"
    ∷ at_a11b 22 "010100" "31121999"
    ∷ accepted "311279" "15012080"
    ∷ at_a11b 23 "311279" "16012080"
    ∷ accepted "010180" "16011980"
    ∷ at_a11b 23 "010180" "01012080"
    ∷ at_a11b 22 "311279" "31121979"
    -- a byte that is no digit comes first, and A7 before A11b
    ∷ at_a11b 3 "150304" "1403 004"
    ∷ at_a7 10 "310404" "14031900"
    ∷ []

pub dated_hold : map answers dated ≡ map wanted_of_both dated
unfolding dated given filed
dated_hold = refl
