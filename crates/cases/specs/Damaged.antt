-- Files damaged at every field: the whole refusal, with its reason, place, width and the field's name. Three lists, one claim.
use Rattle.std.specs.Prelude.{ℕ, ◌≡◌, refl, List, [], ◌∷◌, ◌++◌, map, take}
use Prim.Native.String.{String}
use Rattle.std.proofs.Math.Option.{none, some}
use Rattle.form.specs.Kind.{blanks}
use Rattle.form.specs.Reader.{Reason, short, not_fixed, not_digit, not_sign, breaks, surplus, Refusal, Answer, refused}
use Rattle.document.specs.Signs.{ascii}
use Rattle.document.specs.Values.{Document}
use Rattle.diskette.specs.Writing.{in_turn}
use Rattle.diskette.specs.Fields.{Name, A1, A2, A3, A4, A5, A6, A7, A8, A9, A10, A11a, A11b, A11c, A12, c1_or_e1, C2, C3, C4, C5, C6, C7a, C7b, C8, C9, C10, C11, C12, C13, C14a, C14b, C15, C16, C17a, C17b, C18, mark, words, closing, E2, E3, E4, E5, E6, E7, E8, E9}
use Rattle.diskette.specs.Answer.{answer}
use Rattle.diskette.specs.Cases.{padded, header_m, payment_m, end_m, file_m, put, given}
use Rattle.cases.specs.Others.{times, purpose}

pub record Damage : Type 0 where
  pub file : List ℕ
  pub refusal : Refusal Name

-- M's file with a word put at place p, and what it is given: the reason, and the field's place, width and name
abbrev in_m : ℕ → String → Reason → ℕ → ℕ → Name → Damage
in_m p s z q w ν = record { file = put p s file_m; refusal = record { reason = z; place = q; width = w; name = some ν } }

-- M's file, cut off after n bytes, and the field that is not whole: its place, width and name
abbrev cut : ℕ → ℕ → ℕ → Name → Damage
cut n q w ν = record { file = take n file_m; refusal = record { reason = short; place = q; width = w; name = some ν } }

-- M's file with 15 parts, which is accepted
abbrev long_m : List ℕ
long_m =
    in_turn (
    header_m
    ∷ take 187 (put 0 "0622" (put 185 "15" payment_m))
    ∷ ascii "01"
    ∷ padded "MEIER KG"
    ∷ purpose
    ∷ blanks 11
    ∷ times 3 (times 4 purpose ++ blanks 12)
    ∷ ascii "03"
    ∷ padded "MUSTER GMBH"
    ∷ blanks 99
    ∷ end_m
    ∷ []
    )

-- the file of 15 parts with a word put at place p, and what it is given
abbrev in_long : ℕ → String → Reason → ℕ → ℕ → Name → Damage
in_long p s z q w ν = record { file = put p s long_m; refusal = record { reason = z; place = q; width = w; name = some ν } }

unfoldable pub damaged : List Damage
damaged =
    in_m 0 "X128" not_fixed 0 4 A1
    ∷ in_m 0 "0129" not_fixed 0 4 A1
    ∷ in_m 4 "B" not_fixed 4 1 A2
    ∷ in_m 6 "X" not_fixed 5 2 A3
    ∷ in_m 14 "X" not_digit 7 8 A4
    ∷ in_m 15 "X" not_digit 15 8 A5
    ∷ in_m 22 "1" (breaks 11) 15 8 A5
    ∷ in_m 49 "a" not_sign 23 27 A6
    ∷ in_m 55 "X" not_digit 50 6 A7
    ∷ in_m 50 "320304" (breaks 10) 50 6 A7
    ∷ in_m 59 "X" not_fixed 56 4 A8
    ∷ in_m 69 "X" not_digit 60 10 A9
    ∷ in_m 79 "X" not_digit 70 10 A10
    ∷ in_m 94 "X" not_fixed 80 15 A11a
    ∷ in_m 95 "1503200 " not_digit 95 8 A11b
    ∷ in_m 95 "00000000" (breaks 10) 95 8 A11b
    ∷ in_m 95 "14032004" (breaks 22) 95 8 A11b
    ∷ in_m 95 "31032004" (breaks 23) 95 8 A11b
    ∷ in_m 126 "X" not_fixed 103 24 A11c
    ∷ in_m 127 "2" not_fixed 127 1 A12
    ∷ in_m 131 "X" not_digit 128 4 c1_or_e1
    ∷ in_m 128 "0217" (breaks 5) 128 4 c1_or_e1
    ∷ in_m 128 "0651" (breaks 5) 128 4 c1_or_e1
    ∷ in_m 132 "E" not_fixed 132 1 C2
    ∷ in_m 140 "X" not_digit 133 8 C3
    ∷ in_m 148 "X" not_digit 141 8 C4
    ∷ in_m 141 "0" (breaks 11) 141 8 C4
    ∷ in_m 158 "X" not_digit 149 10 C5
    ∷ in_m 149 "0000000000" (breaks 11) 149 10 C5
    ∷ in_m 165 "X" not_digit 159 13 C6
    ∷ in_m 159 "1" (breaks 11) 159 13 C6
    ∷ in_m 171 "1" (breaks 11) 159 13 C6
    ∷ in_m 173 "X" not_digit 172 2 C7a
    ∷ in_m 172 "52" (breaks 12) 172 2 C7a
    ∷ in_m 176 "X" not_digit 174 3 C7b
    ∷ in_m 174 "889" (breaks 21) 174 3 C7b
    ∷ in_m 177 "0" not_fixed 177 1 C8
    ∷ in_m 188 "X" not_fixed 178 11 C9
    ∷ in_m 188 "1" not_fixed 178 11 C9
    ∷ in_m 196 "X" not_digit 189 8 C10
    ∷ in_m 189 "9" (breaks 11) 189 8 C10
    ∷ in_m 206 "X" not_digit 197 10 C11
    ∷ in_m 197 "0000000000" (breaks 11) 197 10 C11
    ∷ in_m 217 "X" not_digit 207 11 C12
    ∷ in_m 207 "00000000000" (breaks 11) 207 11 C12
    ∷ in_m 220 "X" not_fixed 218 3 C13
    ∷ in_m 247 "a" not_sign 221 27 C14a
    ∷ in_m 221 "                           " (breaks 11) 221 27 C14a
    ∷ in_m 255 "X" not_fixed 248 8 C14b
    ∷ in_m 282 "a" not_sign 256 27 C15
    ∷ in_m 256 "                           " (breaks 11) 256 27 C15
    ∷ in_m 309 "a" not_sign 283 27 C16
    ∷ in_m 310 "2" not_fixed 310 1 C17a
    ∷ in_m 312 "X" not_fixed 311 2 C17b
    ∷ in_m 314 "X" not_digit 313 2 C18
    ∷ in_m 313 "16" (breaks 11) 313 2 C18
    ∷ in_m 316 "X" not_digit 315 2 (mark 1)
    ∷ in_m 315 "04" (breaks 13) 315 2 (mark 1)
    ∷ in_m 343 "a" not_sign 317 27 (words 1)
    ∷ in_m 383 "X" not_fixed 344 40 (closing 2)
    ∷ in_m 387 "X" not_digit 384 4 c1_or_e1
    ∷ in_m 384 "0129" (breaks 5) 384 4 c1_or_e1
    ∷ in_m 388 "A" not_fixed 388 1 E2
    ∷ in_m 393 "X" not_fixed 389 5 E3
    ∷ in_m 400 "X" not_digit 394 7 E4
    ∷ in_m 400 "2" (breaks 14) 394 7 E4
    ∷ in_m 413 "1" not_fixed 401 13 E5
    ∷ in_m 430 "X" not_digit 414 17 E6
    ∷ in_m 430 "2" (breaks 14) 414 17 E6
    ∷ in_m 447 "X" not_digit 431 17 E7
    ∷ in_m 447 "1" (breaks 14) 431 17 E7
    ∷ in_m 460 "X" not_digit 448 13 E8
    ∷ in_m 460 "6" (breaks 14) 448 13 E8
    ∷ in_m 511 "X" not_fixed 461 51 E9
    ∷ record { file = file_m ++ file_m; refusal = record { reason = surplus; place = 512; width = 1; name = none } }
    ∷ []

unfoldable pub damaged_long : List Damage
damaged_long =
    in_long 344 "04" (breaks 13) 344 2 (mark 2)
    ∷ in_long 384 "04" (breaks 13) 384 2 (mark 3)
    ∷ in_long 471 "04" (breaks 13) 471 2 (mark 6)
    ∷ in_long 512 "04" (breaks 13) 512 2 (mark 7)
    ∷ in_long 599 "04" (breaks 13) 599 2 (mark 10)
    ∷ in_long 640 "04" (breaks 13) 640 2 (mark 11)
    ∷ in_long 727 "04" (breaks 13) 727 2 (mark 14)
    ∷ in_long 768 "04" (breaks 13) 768 2 (mark 15)
    ∷ in_long 344 "01" (breaks 13) 344 2 (mark 2)
    ∷ in_long 727 "03" (breaks 13) 727 2 (mark 14)
    ∷ in_long 768 "02" (breaks 13) 768 2 (mark 15)
    ∷ in_long 372 "a" not_sign 346 27 (words 2)
    ∷ in_long 412 "a" not_sign 386 27 (words 3)
    ∷ in_long 796 "a" not_sign 770 27 (words 15)
    ∷ in_long 383 "X" not_fixed 373 11 (closing 2)
    ∷ in_long 511 "X" not_fixed 500 12 (closing 3)
    ∷ in_long 639 "X" not_fixed 628 12 (closing 4)
    ∷ in_long 767 "X" not_fixed 756 12 (closing 5)
    ∷ in_long 895 "X" not_fixed 797 99 (closing 6)
    ∷ []

unfoldable pub cut_off : List Damage
cut_off =
    cut 0 0 4 A1
    ∷ cut 3 0 4 A1
    ∷ cut 4 4 1 A2
    ∷ cut 127 127 1 A12
    ∷ cut 128 128 4 c1_or_e1
    ∷ cut 131 128 4 c1_or_e1
    ∷ cut 344 344 40 (closing 2)
    ∷ cut 383 344 40 (closing 2)
    ∷ cut 384 384 4 c1_or_e1
    ∷ cut 511 461 51 E9
    ∷ []

abbrev pub answered : Damage → Answer Name Document
answered d = answer d.file

abbrev pub expected : Damage → Answer Name Document
expected d = refused d.refusal

pub damaged_refused : map answered (damaged ++ (damaged_long ++ cut_off)) ≡ map expected (damaged ++ (damaged_long ++ cut_off))
unfolding damaged damaged_long cut_off given
damaged_refused = refl
