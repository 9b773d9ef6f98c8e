-- A part read as a file of its own, and the blanks that close a section.
-- A field inside the 29 bytes that are handed on is the same field of the file, also where the file ends in the part: both are whole together,
-- and have the same bytes (`part_look`). So what is read in the part is what would be read in the file, with the place that it has there
-- (`mark_refused`, `mark_passed`, `words_refused`, `words_passed`). The blanks are 11 behind part 2, 12 behind parts 6, 10 and 14, none behind
-- another with a part to come, and always some behind the last (`eleven`, `twelve`, `none_between`, `some_behind`).
use Rattle.std.proofs.Common.{◌≡◌, ℕ, zero, suc, ◌+◌, ◌-◌, ◌*◌, ◌%◌, ◌≤◌, Bool, true, false, cond, ◌||◌, leb, eqb, Ok, Err, List, [], ◌∷◌, length, take, drop, refl, sym, ap, ◌∙◌, add-zero, arith, length-take, length-drop, drop-drop, take-take, eqb→eq, leb-true, ne_eqb}
use mathlib.Core.Logic.{inl, inr}
use lib.ListN.{length-replicate}
use Rattle.form.specs.Kind.{Kind, fixed, digits, width, blanks}
use Rattle.form.specs.Form.{Rule}
use Rattle.form.specs.Reader.{Look, has}
use Rattle.form.specs.Place.{look_at, field_at, read_at}
use Rattle.form.proofs.BoolLaws.{T_of, or_cases}
use Rattle.form.proofs.PlaceLaws.{field_inside, look_inside}
use Rattle.diskette.specs.Fields.{text27, closing_blanks}
use Rattle.diskette.specs.Writing.{to_section_end, to_next_part}
use Rattle.fields.specs.declared.Refusal.{Refusal}
use Rattle.fields.specs.Answers.{refusal_of, Reading, Telling, of_field, of_read, passings, numbers}
use Rattle.fields.proofs.AnswerLaws.{number_is, passed_to}
use Rattle.fields.proofs.LeafLaws.{leb_leb}
use Rattle.fields.proofs.StepLaws.{Gives, at_end, last}
use Rattle.fields.proofs.WalkLaws.{fails}

-- ---- a part as a file of its own

take_part : (w q n : ℕ) (l : List ℕ) → q + w ≤ n → take w (drop q (take n l)) ≡ take w (drop q l)
take_part w zero n l h = take-take w n l (omega arith)
take_part w (suc q) zero l h = absurd (omega arith)
take_part w (suc q) (suc n) [] h = refl
take_part w (suc q) (suc n) (x ∷ xs) h = take_part w q n xs (omega arith)

-- a field inside a part of 29 bytes, or of those that the file still has
pub part_look : (κ : Kind) (f : List ℕ) (p q : ℕ) → q + width κ ≤ 29 → 1 ≤ q + width κ
    → look_at κ (take 29 (drop p f)) q ≡ look_at κ f (p + q)
unfolding look_at
part_look κ f p q h j =
    let part = length-take 29 (drop p f) in
    let rest = length-drop p f in
    rw (
      leb_leb (q + width κ) (length (take 29 (drop p f))) (p + q + width κ) (length f) (λ i. omega arith) (λ i. omega arith),
      take_part (width κ) q 29 (drop p f) h,
      drop-drop q p f,
    )

-- a field that is refused, also where it is looked for in the file, at q
refused_there : {X T : Type 0} (t : Telling X T) {a : Reading T} (p n : ℕ) {l k : Look X} (q m : ℕ) → l ≡ k → a ≡ of_field t p n l
    → {r : Refusal} → a ≡ Err r → of_field t q m k ≡ Err (refusal_of r.number q)
unfolding of_field
refused_there t p n {l} q m same told given =
    let x = fails t p n l told given in
    rw (← same, x.lack) (ap (λ (y : Refusal). Err (refusal_of y.number q)) (sym x.refusal))

module _ (f part : List ℕ) (p : ℕ) (cut : part ≡ take 29 (drop p f)) where
  module _ (rs : ℕ → List Rule) where
    mark_there : field_at (digits 2) rs part 0 ≡ field_at (digits 2) rs f p
    mark_there = rw (cut, part_look (digits 2) f p 0 (omega arith) (omega arith), add-zero p)

    module _ {a : Reading (ℕ × ℕ)} (told : a ≡ of_field numbers 0 2 (field_at (digits 2) rs part 0)) where
      pub mark_refused : {r : Refusal} → a ≡ Err r → of_field numbers p (p + 2) (field_at (digits 2) rs f p) ≡ Err (refusal_of r.number p)
      mark_refused given = refused_there numbers 0 2 p (p + 2) mark_there told given

      module _ {v q : ℕ} (given : a ≡ Ok (v, q)) where
        mark_is : field_at (digits 2) rs f p ≡ has v
        mark_is = sym mark_there ∙ (number_is 0 2 (field_at (digits 2) rs part 0) told given).0

        pub mark_passed : of_field numbers p (p + 2) (field_at (digits 2) rs f p) ≡ Ok (v, p + 2)
        unfolding of_field
        mark_passed = rw mark_is

        pub mark_inside : p + 2 ≤ length f
        mark_inside = field_inside (digits 2) rs f p v mark_is

  words_there : look_at text27 part 2 ≡ look_at text27 f (p + 2)
  words_there = rw (cut, part_look text27 f p 2 (omega arith) (omega arith))

  module _ {a : Reading ℕ} (told : a ≡ of_field (passings {X = List ℕ}) 2 29 (look_at text27 part 2)) where
    pub words_refused : {r : Refusal} → a ≡ Err r
        → of_field (passings {X = List ℕ}) (p + 2) (p + 2 + 27) (look_at text27 f (p + 2)) ≡ Err (refusal_of r.number (p + 2))
    words_refused given = refused_there passings 2 29 (p + 2) (p + 2 + 27) words_there told given

    module _ {q : ℕ} (given : a ≡ Ok q) where
      words_are : (v : List ℕ) × (look_at text27 f (p + 2) ≡ has v)
      words_are = let t = passed_to 2 29 (look_at text27 part 2) told given in (t.0, sym words_there ∙ t.1)

      pub words_passed : of_field (passings {X = List ℕ}) (p + 2) (p + 2 + 27) (look_at text27 f (p + 2)) ≡ Ok (p + 2 + 27)
      unfolding of_field
      words_passed = rw words_are.1

      pub words_inside : p + 2 + 27 ≤ length f
      words_inside = look_inside text27 f (p + 2) words_are.0 words_are.1

-- ---- the blanks that close a section

module _ (n : ℕ) (f : List ℕ) (p : ℕ) where
  pub closing_none : (w : ℕ) → w ≡ 0 → Ok p ≡ of_read passings (read_at (closing_blanks n w) f p)
  unfolding read_at of_read
  closing_none w e = rw e

  pub closing_some : (w : ℕ) → (w ≡ 0 → ⊥)
      → of_field passings p (p + w) (look_at (fixed (blanks w)) f p) ≡ of_read passings (read_at (closing_blanks n w) f p)
  closing_some zero e = absurd (e refl)
  closing_some (suc w) e =
      let blank = blanks (suc w) in
      let place = p + length blank in
      let g : Gives passings f (closing_blanks n (suc w)) p (of_field passings p place (look_at (fixed blank) f p)) = last passings (λ v. at_end) in
      rw (length-replicate {A = ℕ} (suc w) 0x20) at (sym g.is)

-- how many blanks stand between part i and a next one, and behind it where it is the last
module _ (i : ℕ) where
  pub eleven : i ≡ 2 → to_next_part i ≡ 11
  unfolding to_next_part to_section_end
  eleven e = rw e

  pub twelve : eqb i 6 || (eqb i 10 || eqb i 14) ≡ true → to_next_part i ≡ 12
  unfolding to_next_part to_section_end
  twelve e =
      elim (or_cases (eqb i 6) (eqb i 10 || eqb i 14) (T_of e)) [
        | inl h ↦ rw (eqb→eq i 6 h)
        | inr h ↦ elim (or_cases (eqb i 10) (eqb i 14) h) [ inl k ↦ rw (eqb→eq i 10 k) | inr k ↦ rw (eqb→eq i 14 k) ]
      ]

  pub none_between : (i ≡ 2 → ⊥) → eqb i 6 || (eqb i 10 || eqb i 14) ≡ false → to_next_part i ≡ 0
  unfolding to_next_part
  none_between n e = rw (ne_eqb i 2 n, e)

  pub some_behind : to_section_end i ≡ 0 → ⊥
  unfolding to_section_end
  some_behind e = by (leb i 2) refl e
    where
      by : (b : Bool) → leb i 2 ≡ b → cond b (69 - 29 * i) (128 - 29 * ((i - 3) % 4 + 1)) ≡ 0 → ⊥
      by true h e = let l = leb-true i 2 h in omega arith
      by false h e = omega arith
