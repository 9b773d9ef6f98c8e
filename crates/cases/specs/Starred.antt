-- The starred cases of the requirements: one list, one claim. Changes are to case M's file.
use Rattle.std.specs.Prelude.{◌≡◌, refl, List, [], ◌∷◌, ◌++◌, map, take}
use Rattle.document.specs.Signs.{ascii}
use Rattle.diskette.specs.Cases.{header_m, end_m, file_m, put, Case, given, wanted}

unfoldable pub starred : List Case
starred =
    record { file = file_m; number = 0; place = 0 }
    -- the empty file; M's first 130 bytes; M and one byte more
    ∷ record { file = []; number = 1; place = 0 }
    ∷ record { file = take 130 file_m; number = 1; place = 128 }
    ∷ record { file = file_m ++ ascii "X"; number = 15; place = 512 }
    -- C1 0186; E directly after A
    ∷ record { file = put 128 "0186" file_m; number = 5; place = 128 }
    ∷ record { file = header_m ++ end_m; number = 5; place = 128 }
    -- C1 0622, C18 15, first mark 02
    ∷ record { file = put 128 "0622" (put 313 "15" file_m); number = 13; place = 315 }
    -- A11b
    ∷ record { file = put 95 "30032004" file_m; number = 0; place = 0 }
    ∷ record { file = put 95 "31032004" file_m; number = 23; place = 95 }
    ∷ record { file = put 95 "14032004" file_m; number = 22; place = 95 }
    -- A3 LK; C4 beginning with 9; a small letter first in C14a; E4 0000002
    ∷ record { file = put 5 "LK" file_m; number = 12; place = 172 }
    ∷ record { file = put 141 "9" file_m; number = 11; place = 141 }
    ∷ record { file = put 221 "m" file_m; number = 4; place = 221 }
    ∷ record { file = put 394 "0000002" file_m; number = 14; place = 394 }
    ∷ []

pub starred_hold : map given starred ≡ map wanted starred
unfolding starred given
starred_hold = refl
