-- The other cases of the requirements, those at the cent limit among them: one list, one claim.
use Rattle.std.specs.Prelude.{ℕ, zero, suc, ◌≡◌, refl, List, [], ◌∷◌, ◌++◌, map, take}
use Prim.Native.String.{String}
use Rattle.form.specs.Kind.{blanks}
use Rattle.document.specs.Signs.{ascii}
use Rattle.diskette.specs.Writing.{in_turn}
use Rattle.diskette.specs.Cases.{padded, header_m, payment_m, end_m, file_m, put, Case, given, wanted}

-- n times the same, one behind the other
abbrev pub times : {A : Type 0} → ℕ → List A → List A
times zero xs = []
times (suc n) xs = xs ++ times n xs

-- a part with mark 02
abbrev pub purpose : List ℕ
purpose = ascii "02" ++ padded "KUNDE 4"

-- M's payment with 14 parts, all 02
abbrev pub fourteen : List ℕ
fourteen =
    in_turn (
    take 187 (put 0 "0593" (put 185 "14" payment_m))
    ∷ times 2 purpose
    ∷ blanks 11
    ∷ times 3 (times 4 purpose ++ blanks 12)
    ∷ []
    )

-- M's payment with another amount
abbrev pub paying : String → List ℕ
paying cents = put 79 cents payment_m

-- M's A, 100 payments of the largest amount, and then more
abbrev pub near : List ℕ → List ℕ
near more = in_turn (header_m ∷ times 100 (paying "99999999999") ∷ more ∷ [])

-- E for 101 payments of M's account and bank code
abbrev pub end_top : List ℕ
end_top = put 10 "0000101" (put 30 "00000000773086421" (put 47 "00000003035052020" (put 64 "9999999999999" end_m)))

unfoldable pub others : List Case
others =
    -- C1 0187, C18 01; fourteen parts, all 02
    record { file = put 128 "0187" file_m; number = 11; place = 313 }
    ∷ record { file = in_turn (header_m ∷ fourteen ∷ end_m ∷ []); number = 13; place = 727 }
    -- A7 290203; A7 311299 with A11b 01012000
    ∷ record { file = put 50 "290203" file_m; number = 10; place = 50 }
    ∷ record { file = put 50 "311299" (put 95 "01012000" file_m); number = 0; place = 0 }
    -- 100 payments of 99999999999 and one of 99; with 100 instead of 99; a further C
    ∷ record { file = near (paying "00000000099" ++ end_top); number = 0; place = 0 }
    ∷ record { file = near (paying "00000000100" ++ end_top); number = 9; place = 25_807 }
    ∷ record { file = near (paying "00000000099" ++ paying "00000000001"); number = 9; place = 25_984 }
    ∷ []

pub others_hold : map given others ≡ map wanted others
unfolding others given
others_hold = refl
