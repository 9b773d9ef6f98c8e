-- The line of a refusal: how long it is, and that it stands in the output once its pieces were written one behind the other.
-- The pieces are a numeral, a tab, a numeral and the line's end. Behind each of them the output begins with the pieces so far (`first_piece`,
-- `both_pieces`, `all_pieces`), since each is written right behind the one before it. The code writes so many digits of each number as it has
-- counted; these hold the number, so what is written is its decimal (`the_number`, `the_place`, by `decimal_digits`). The room is tested once,
-- for the whole line, so the line is written whole or not at all.
use Prim.Native.Nat.{ℕ, ◌+◌, ◌-◌, ◌%◌, ◌^◌, ◌≤◌, ◌<◌}
use native.Mathlib.Omega.{arith}
use mathlib.Core.Path.{◌≡◌, sym, ap, ap₂, ◌∙◌}
use mathlib.Core.List.{List, [], ◌∷◌, ◌++◌, append_assoc}
use lib.ListN.{length, set, length-append}
use borrow.Author.Tests.{le-leb, lt-leb}
use Rattle.form.specs.Kind.{numeral}
use Rattle.form.proofs.KindLaws.{numeral_length}
use Rattle.verdict.specs.Lent.{filled}
use Rattle.listing.specs.Lines.{tab, line_end}
use Rattle.output.specs.Writing.{over, over_if_room}
use Rattle.output.proofs.OverLaws.{over_room, over_length, over_first, over_next, over_more}
use Rattle.reply.specs.Reply.{digits_within, decimal, refusal_line, fitting}
use Rattle.reply.proofs.DecimalLaws.{no_more, few, decimal_digits}

-- ---- all bytes, or none

module _ (room : ℕ) (bs : List ℕ) where
  pub fits : length bs ≤ room → fitting room bs ≡ bs
  unfolding fitting
  fits h = rw (le-leb (length bs) room h)

  fits_not : room < length bs → fitting room bs ≡ []
  unfolding fitting
  fits_not h = rw (lt-leb (length bs) room h)

-- what a call ensures of the length that it gives back and of the output, which held `old`
abbrev pub Says : List ℕ → List ℕ → ℕ → List ℕ → Type 0
Says bs old r new = (r ≡ length bs) × (new ≡ filled bs old)

-- ---- two pieces, each with a byte behind it

module _ (d e : List ℕ) where
  abbrev pieces : List ℕ
  pieces = d ++ (tab ∷ (e ++ (line_end ∷ [])))

  pieces_length : length pieces ≡ length d + length e + 2
  pieces_length = omega (arith, length-append d (tab ∷ (e ++ (line_end ∷ []))), length-append e (line_end ∷ []))

  module _ (old : List ℕ) (h : length d + length e + 2 ≤ length old) {o₁ o₂ : List ℕ} (one : o₁ ≡ over_if_room 0 d old)
      (two : o₂ ≡ over_if_room (length d + 1) e (set o₁ (length d) tab)) where
    abbrev begun : List ℕ
    begun = d ++ (tab ∷ [])

    begun_length : length begun ≡ length d + 1
    begun_length = length-append d (tab ∷ [])

    first_piece : set o₁ (length d) tab ≡ over 0 begun old
    first_piece =
        ap₂ (λ o i. set o i tab) (one ∙ over_room 0 d old (omega arith)) (omega arith) ∙ over_more 0 tab d old (omega arith)

    both_pieces : o₂ ≡ over 0 (begun ++ e) old
    both_pieces =
        let l = begun_length in
        let place : length d + 1 ≡ 0 + length begun = omega arith in
        two
        ∙ ap₂ (λ i o. over_if_room i e o) place first_piece
        ∙ over_room (0 + length begun) e (over 0 begun old) (omega (arith, over_length 0 begun old (omega arith)))
        ∙ over_next 0 begun e old (omega arith)

    all_pieces : set o₂ (length d + length e + 2 - 1) line_end ≡ filled pieces old
    all_pieces =
        let long : length (begun ++ e) ≡ length d + 1 + length e = length-append begun e ∙ ap (λ n. n + length e) begun_length in
        let place : length d + length e + 2 - 1 ≡ 0 + length (begun ++ e) = omega arith in
        let all : (begun ++ e) ++ (line_end ∷ []) ≡ pieces = simp append_assoc in
        ap₂ (λ o i. set o i line_end) both_pieces place
        ∙ over_more 0 line_end (begun ++ e) old (omega arith)
        ∙ ap (λ bs. over 0 bs old) all
        ∙ over_first pieces old

-- ---- the line

pub line_length : (n p : ℕ) → length (refusal_line n p) ≡ digits_within 20 n + digits_within 20 p + 2
line_length n p =
    pieces_length (decimal n) (decimal p) ∙ ap₂ (λ a b. a + b + 2) (numeral_length (digits_within 20 n) n) (numeral_length (digits_within 20 p) p)

-- a line has at most 42 bytes: 20 digits, a tab, 20 digits, the line's end; whatever the numbers
pub line_short : (n p : ℕ) → length (refusal_line n p) ≤ 42
line_short n p = omega (arith, line_length n p, no_more 20 n, no_more 20 p)

module _ (n p : ℕ) (old : List ℕ) where
  -- the output is too short
  pub line_not_written : {m : ℕ} → m ≡ length (refusal_line n p) → length old < m → Says (fitting (length old) (refusal_line n p)) old 0 old
  line_not_written l h =
      let e = sym (fits_not (length old) (refusal_line n p) (omega arith)) in
      (ap length e, ap (λ bs. filled bs old) e)

  -- number and place have a and b digits, and are written with the tab between them
  module _ (n< : n < 10 ^ 20) (p< : p < 10 ^ 20) {a b : ℕ} (first : a ≡ digits_within 20 n) (second : b ≡ digits_within 20 p)
      (h : a + b + 2 ≤ length old) {o₁ o₂ : List ℕ} (one : o₁ ≡ over_if_room 0 (numeral a (n % 10 ^ a)) old)
      (two : o₂ ≡ over_if_room (a + 1) (numeral b (p % 10 ^ b)) (set o₁ a tab)) where
    wide : length (decimal n) ≡ a
    wide = numeral_length (digits_within 20 n) n ∙ sym first

    wide_too : length (decimal p) ≡ b
    wide_too = numeral_length (digits_within 20 p) p ∙ sym second

    room : length (decimal n) + length (decimal p) + 2 ≤ length old
    room = omega (arith, wide, wide_too)

    the_number : o₁ ≡ over_if_room 0 (decimal n) old
    the_number = one ∙ ap (λ bs. over_if_room 0 bs old) (ap (λ w. numeral w (n % 10 ^ w)) first ∙ decimal_digits n n<)

    the_place : o₂ ≡ over_if_room (length (decimal n) + 1) (decimal p) (set o₁ (length (decimal n)) tab)
    the_place =
        two
        ∙ ap₂ (λ i bs. over_if_room (i + 1) bs (set o₁ i tab)) (sym wide) (ap (λ w. numeral w (p % 10 ^ w)) second ∙ decimal_digits p p<)

    whole : a + b + 2 ≡ length (refusal_line n p)
    whole = omega (arith, line_length n p)

    -- the line's end makes the line whole
    pub line_written : Says (fitting (length old) (refusal_line n p)) old (a + b + 2) (set o₂ (a + b + 2 - 1) line_end)
    line_written =
        let l = whole in
        let e = sym (fits (length old) (refusal_line n p) (omega arith)) in (
          whole ∙ ap length e,
          ap₂ (λ i j. set o₂ (i + j + 2 - 1) line_end) (sym wide) (sym wide_too)
              ∙ all_pieces (decimal n) (decimal p) old room the_number the_place
              ∙ ap (λ bs. filled bs old) e,
        )

-- what the function needs that writes the line: no number has many digits, how long the line is, and both ways out
pub ruleset piece_by_piece = (few, line_length, line_not_written, line_written)
