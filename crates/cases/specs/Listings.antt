-- Case M of the requirements both ways, and what composing gives for M's listing with fields and lines changed: one list, one claim.
use Rattle.std.specs.Prelude.{ℕ, ◌≡◌, refl, List, [], ◌∷◌, ◌++◌, map, take, set}
use Prim.Native.String.{String}
use Rattle.form.specs.Place.{read_at, look_at}
use Rattle.document.specs.Signs.{ascii}
use Rattle.document.specs.Calendar.{to_ddmmyy}
use Rattle.diskette.specs.Writing.{in_turn}
use Rattle.diskette.specs.Answer.{answer}
use Rattle.diskette.specs.Cases.{file_m, given}
use Rattle.listing.specs.Lines.{split, trim}
use Rattle.listing.specs.Composing.{compose_header, compose_payment, compose_payments, compose_lines, compose}
use Rattle.listing.specs.Endings.{Ending, writes, refuses, listed, composed}
use Rattle.cases.specs.Others.{times}

-- the file that is composed from a listing; opened, it computes, and so does the listing of a file
unfoldable pub filed : List ℕ → Ending
unfolding given to_ddmmyy compose compose_lines compose_header compose_payments compose_payment split read_at look_at trim listed composed
filed l = composed (compose l)

-- ---- case M: 193 bytes, 65 of them in the first line

-- words with tabs between them, and the line end
abbrev pub line_of : List String → List ℕ
line_of [] = ascii "\n"
line_of (word ∷ []) = ascii word ++ ascii "\n"
line_of (word ∷ next ∷ words) = ascii word ++ (ascii "\t" ++ line_of (next ∷ words))

abbrev pub words_a : List String
words_a = "A" ∷ "GK" ∷ "20050010" ∷ "00000000" ∷ "MUSTER GMBH" ∷ "150304" ∷ "0001234567" ∷ "0000000000" ∷ "" ∷ []

-- the line of M's payment up to C16
abbrev pub words_to_c16 : List String
words_to_c16 =
    "C" ∷ "00000000" ∷ "30050020" ∷ "0007654321" ∷ "0000000000000" ∷ "51" ∷ "000" ∷ "20050010" ∷ "0001234567" ∷ "00000012345"
    ∷ "MEIER KG" ∷ "MUSTER GMBH" ∷ "RECHNUNG 17" ∷ []

-- M's one part, with mark 02
abbrev words_of_part : List String
words_of_part = "02" ∷ "KUNDE 4" ∷ []

-- the line of M's payment, with this part
abbrev pub words_c : List String
words_c = words_to_c16 ++ words_of_part

abbrev pub line_a : List ℕ
line_a = line_of words_a

abbrev pub line_c : List ℕ
line_c = line_of words_c

abbrev pub listing_m : List ℕ
listing_m = line_a ++ line_c

pub composed_m : composed (compose listing_m) ≡ writes file_m
unfolding filed
composed_m = refl

pub listed_m : listed (answer file_m) ≡ writes listing_m
unfolding filed
listed_m = refl

-- ---- cases

-- a listing, and the number and the place that it is given
pub record Case : Type 0 where
  pub listing : List ℕ
  pub number : ℕ
  pub place : ℕ

-- M's listing with another word as field i of A; the letter is field 0
abbrev in_a : ℕ → String → ℕ → ℕ → Case
in_a i word n p = record { listing = line_of (set words_a i word) ++ line_c; number = n; place = p }

-- M's listing with another word as field i of C; the letter is field 0
abbrev in_c : ℕ → String → ℕ → ℕ → Case
in_c i word n p = record { listing = line_a ++ line_of (set words_c i word); number = n; place = p }

-- M's listing with other fields behind C16
abbrev behind_c16 : List String → ℕ → ℕ → Case
behind_c16 words n p = record { listing = line_a ++ line_of (words_to_c16 ++ words); number = n; place = p }

-- a listing that is put together from lines
abbrev lines : List (List ℕ) → ℕ → ℕ → Case
lines ls n p = record { listing = in_turn ls; number = n; place = p }

-- the line of M's payment with another amount
abbrev line_paying : String → List ℕ
line_paying cents = line_of (set words_c 9 cents)

-- 100 payments of the largest amount, and then more lines: the 101st payment begins at 12865, the next at 12993
abbrev behind_hundred : List (List ℕ) → ℕ → ℕ → Case
behind_hundred more n p = lines (line_a ∷ times 100 (line_paying "99999999999" ∷ []) ++ more) n p

unfoldable pub cases : List Case
cases =
    lines (line_a ∷ line_c ∷ []) 0 0
    -- no line, an empty line, no payment
    ∷ lines [] 18 0
    ∷ lines (ascii "\n" ∷ []) 17 0
    ∷ lines (line_a ∷ []) 18 65
    -- a C first, an A later, an E, an empty line, a letter alone, a small letter, no letter
    ∷ lines (line_c ∷ []) 17 0
    ∷ lines (line_a ∷ line_a ∷ line_c ∷ []) 17 65
    ∷ lines (line_a ∷ line_c ∷ line_of (set words_c 0 "E") ∷ []) 17 193
    ∷ lines (line_a ∷ line_c ∷ ascii "\n" ∷ []) 17 193
    ∷ lines (line_a ∷ line_c ∷ ascii "C\n" ∷ []) 17 193
    ∷ in_a 0 "a" 17 0
    ∷ in_a 0 "" 17 0
    -- the last line is not ended
    ∷ lines (take 64 line_a ∷ []) 17 0
    ∷ lines (line_a ∷ take 127 line_c ∷ []) 17 65
    -- line ends with a carriage return before them: a byte of the last field
    ∷ lines (line_of (set words_a 8 "\r") ∷ line_of (set words_c 14 "KUNDE 4\r") ∷ []) 17 0
    ∷ in_c 14 "KUNDE 4\r" 4 185
    -- a line end or a tab in a field, a field too many, one too few
    ∷ in_c 10 "MEIER\nKG" 17 65
    ∷ in_c 10 "MEIER\tKG" 17 65
    ∷ in_a 8 "\t" 17 0
    ∷ lines (line_of (take 8 words_a) ∷ line_c ∷ []) 17 0
    ∷ behind_c16 ("02" ∷ []) 17 65
    ∷ behind_c16 (words_of_part ++ ("02" ∷ [])) 17 65
    ∷ lines (line_a ∷ line_of (take 12 words_c) ∷ []) 17 65
    -- fields that end in blanks, also in place of a digit; one that begins with a blank
    ∷ in_a 4 "MUSTER GMBH " 17 0
    ∷ in_a 8 "        " 17 0
    ∷ in_c 10 " " 17 65
    ∷ in_c 12 "RECHNUNG 17 " 17 65
    ∷ in_c 2 "3005002 " 17 65
    ∷ in_c 10 " X" 0 0
    -- numbers and dates that have not their width, texts of 28 and of 27 signs
    ∷ in_a 5 "15032004" 17 0
    ∷ in_a 8 "300304" 17 0
    ∷ in_c 2 "3005002" 17 65
    ∷ in_c 2 "030050020" 17 65
    ∷ in_c 13 "002" 17 65
    ∷ in_c 14 "PPPPPPPPPPPPPPPPPPPPPPPPPPPP" 17 65
    ∷ in_c 14 "PPPPPPPPPPPPPPPPPPPPPPPPPPP" 0 0
    -- empty texts: where blank is permitted, and where it is not
    ∷ in_a 4 "" 0 0
    ∷ in_c 12 "" 0 0
    ∷ in_c 14 "" 0 0
    ∷ in_c 10 "" 11 149
    ∷ in_c 11 "" 11 158
    -- A3, A5, A6, A7, A11b: as in a file, at the field's place in the listing
    ∷ in_a 1 "LK" 12 110
    ∷ in_a 3 "00000001" 11 14
    ∷ in_a 4 "MUSTER gMBH" 4 23
    ∷ in_a 5 "290203" 10 35
    ∷ in_a 8 "30032004" 0 0
    ∷ in_a 8 "14032004" 22 64
    ∷ in_a 8 "31032004" 23 64
    ∷ in_a 8 "3103200X" 3 64
    -- C4, C7b, C12, marks
    ∷ in_c 2 "3005002X" 3 76
    ∷ in_c 2 "90050020" 11 76
    ∷ in_c 6 "889" 21 113
    ∷ in_c 9 "00000000000" 11 137
    ∷ in_c 13 "04" 13 182
    -- no part, 15 in order, 15 times 02, 16
    ∷ behind_c16 [] 0 0
    ∷ behind_c16 (("01" ∷ "MEIER KG" ∷ []) ++ (times 13 words_of_part ++ ("03" ∷ "MUSTER GMBH" ∷ []))) 0 0
    ∷ behind_c16 (times 15 words_of_part) 13 182
    ∷ behind_c16 (times 16 words_of_part) 17 65
    -- the first line that is wrong counts; in a line its form comes first
    ∷ lines (line_of (set words_a 1 "XX") ∷ ascii "Q\n" ∷ []) 2 2
    ∷ lines (line_of (set (set words_a 1 "XX") 8 "\r") ∷ line_c ∷ []) 17 0
    ∷ lines (line_a ∷ line_c ∷ line_c ∷ line_of (set words_c 3 "0000000000") ∷ []) 11 341
    -- the cent limit: met, passed, and a further line behind it, also one that has not its form
    ∷ behind_hundred (line_paying "00000000099" ∷ []) 0 0
    ∷ behind_hundred (line_paying "00000000100" ∷ []) 9 12_937
    ∷ behind_hundred (line_paying "00000000099" ∷ line_c ∷ []) 9 12_993
    ∷ behind_hundred (line_paying "00000000099" ∷ ascii "C\n" ∷ []) 17 12_993
    ∷ []

abbrev pub reached : Ending → ℕ × ℕ
reached (writes bs) = (0, 0)
reached (refuses v) = (v.number, v.place)

pub cases_hold : map (λ (c : Case). reached (filed c.listing)) cases ≡ map (λ (c : Case). (c.number, c.place)) cases
unfolding cases filed
cases_hold = refl
