-- Case M of the requirements, how it is changed, and some worked cases: what the rules answer to files written out byte by byte.
use Rattle.std.specs.Prelude.{ℕ, ◌+◌, ◌-◌, ◌≡◌, refl, List, [], ◌∷◌, ◌++◌, map, length, take, drop}
use Prim.Native.String.{String}
use Rattle.form.specs.Kind.{blanks, numeral}
use Rattle.form.specs.Reader.{run, judge, number}
use Rattle.document.specs.Signs.{ascii, zeros}
use Rattle.document.specs.Calendar.{is_day, month_days, leap_day, not_too_early, not_too_late, day_number, years_days, months_days, of_ddmmyy, of_ddmmyyyy}
use Rattle.diskette.specs.Writing.{in_turn, to_section_end, to_next_part}
use Rattle.diskette.specs.Fields.{parts, payments, document}
use Rattle.verdict.specs.Verdicts.{accepting, number_of}
use Rattle.diskette.specs.Answer.{answer, outcome}

-- a word, and blanks up to a width of 27
abbrev pub padded : String → List ℕ
padded s = ascii s ++ blanks (27 - length (ascii s))

-- a file, and the number and the place that it is given
pub record Case : Type 0 where
  pub file : List ℕ
  pub number : ℕ
  pub place : ℕ

-- the number and the place that the rules give a case; opened, the definition computes
unfoldable pub given : Case → ℕ × ℕ
unfolding answer document payments parts run judge number numeral number_of outcome to_section_end to_next_part is_day month_days leap_day not_too_early not_too_late day_number years_days months_days of_ddmmyy of_ddmmyyyy
given c = let v = (outcome (answer c.file)).verdict in (v.number, v.place)

-- ---- case M: 512 bytes

abbrev pub header_m : List ℕ
header_m =
    in_turn (
    ascii "0128A"
    ∷ ascii "GK"
    ∷ ascii "20050010"
    ∷ ascii "00000000"
    ∷ padded "MUSTER GMBH"
    ∷ ascii "150304"
    ∷ blanks 4
    ∷ ascii "0001234567"
    ∷ ascii "0000000000"
    ∷ blanks 47
    ∷ ascii "1"
    ∷ []
    )

abbrev pub payment_m : List ℕ
payment_m =
    in_turn (
    ascii "0216C"
    ∷ ascii "00000000"
    ∷ ascii "30050020"
    ∷ ascii "0007654321"
    ∷ ascii "0000000000000"
    ∷ ascii "51"
    ∷ ascii "000"
    ∷ blanks 1
    ∷ zeros 11
    ∷ ascii "20050010"
    ∷ ascii "0001234567"
    ∷ ascii "00000012345"
    ∷ blanks 3
    ∷ padded "MEIER KG"
    ∷ blanks 8
    ∷ padded "MUSTER GMBH"
    ∷ padded "RECHNUNG 17"
    ∷ ascii "1"
    ∷ blanks 2
    ∷ ascii "01"
    ∷ ascii "02"
    ∷ padded "KUNDE 4"
    ∷ blanks 40
    ∷ []
    )

abbrev pub end_m : List ℕ
end_m =
    in_turn (
    ascii "0128E"
    ∷ blanks 5
    ∷ ascii "0000001"
    ∷ zeros 13
    ∷ ascii "00000000007654321"
    ∷ ascii "00000000030050020"
    ∷ ascii "0000000012345"
    ∷ blanks 51
    ∷ []
    )

abbrev pub file_m : List ℕ
file_m = in_turn (header_m ∷ payment_m ∷ end_m ∷ [])

-- case M is accepted, with one payment and its three sums
pub outcome_m : outcome (answer file_m) ≡ record { verdict = accepting; totals = record { count = 1; accounts = 7_654_321; bank_codes = 30_050_020; cents = 12_345 } }
unfolding given
outcome_m = refl

-- ---- cases

-- a file with a word put at place p, in the stead of the bytes that stood there
abbrev pub put : ℕ → String → List ℕ → List ℕ
put p s f = take p f ++ (ascii s ++ drop (p + length (ascii s)) f)

abbrev pub wanted : Case → ℕ × ℕ
wanted c = (c.number, c.place)

-- cases that a wrong definition would answer otherwise
unfoldable pub guards : List Case
guards =
    record { file = file_m; number = 0; place = 0 }
    ∷ record { file = put 50 "311104" file_m; number = 10; place = 50 }
    ∷ record { file = put 50 "311279" (put 95 "15012080" file_m); number = 0; place = 0 }
    ∷ record { file = put 95 "30032004" file_m; number = 0; place = 0 }
    ∷ record { file = put 95 "31032004" file_m; number = 23; place = 95 }
    ∷ record { file = put 95 "14032004" file_m; number = 22; place = 95 }
    ∷ record { file = put 95 "15030000" file_m; number = 10; place = 95 }
    ∷ record { file = put 128 "0186" file_m; number = 5; place = 128 }
    ∷ record { file = put 141 "9" file_m; number = 11; place = 141 }
    ∷ record { file = put 159 "1" file_m; number = 11; place = 159 }
    ∷ record { file = put 171 "1" file_m; number = 11; place = 159 }
    ∷ record { file = put 172 "05" file_m; number = 12; place = 172 }
    ∷ record { file = put 221 "m" file_m; number = 4; place = 221 }
    ∷ record { file = put 221 ".,&-/+*$%[\\]~ 09AZ" file_m; number = 0; place = 0 }
    ∷ record { file = put 128 "0622" (put 313 "15" file_m); number = 13; place = 315 }
    ∷ []

pub guards_hold : map given guards ≡ map wanted guards
unfolding guards given
guards_hold = refl
