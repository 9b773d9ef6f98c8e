-- What A and C have of their own, and all of E: written into blanks one after another, it makes the record that no field has been put into yet,
-- and E.
-- A is computed, and so is C, for each number of parts from 0 to 15 (`laid_a`, `laid_c`). E cannot be, since its figures may be any: it is taken
-- as a record with five fields that are told (`record_e`). What it has of its own is computed too, and each figure put into it is one field more
-- (`figure`, by `lay_step`), in which no digit is lost, since the figure has room in E.
use Prim.Native.Nat.{ℕ, ◌*◌, ◌%◌, ◌^◌, ◌≤◌, suc, ◌<◌}
use native.Mathlib.Omega.{arith}
use native.Mathlib.Nat.{mod-eq_of_lt}
use mathlib.Core.Path.{◌≡◌, refl, ap, ◌∙◌, sym}
use mathlib.Core.List.{List, [], ◌∷◌}
use mathlib.Core.Option.{some}
use lib.ListN.{take, get_elem?}
use Rattle.form.specs.Kind.{numeral, blanks, digits}
use Rattle.form.proofs.BelowLaws.{below, agree}
use Rattle.document.specs.Signs.{ascii, zeros}
use Rattle.document.specs.Marks.{most_parts}
use Rattle.diskette.specs.Writing.{section, to_section_end, to_next_part, length_of, write_end}
use Rattle.listing.specs.Records.{record_a, record_c, pad, lay, Piece, own, told, cells}
use Rattle.layout.specs.Widths as width
use Rattle.layout.specs.Places as place
use Rattle.output.specs.Writing.{over_if_room}
use Rattle.document.specs.Values.{Totals}
use Rattle.listing.proofs.PrintedLaws.{pad_number}
use Rattle.composer.specs.Writing.{Writable}
use Rattle.composer.proofs.LayLaws.{lay_step}

-- ---- A

laid_a : over_if_room place.A12 (pad width.A12 (ascii "1")) (over_if_room place.A2 (pad width.A2 (ascii "A")) (over_if_room place.A1 (pad width.A1 (ascii "0128")) (blanks 128)))
    ≡ lay record_a []
unfolding over_if_room
laid_a = refl

pub own_a : {n : ℕ} {a b c d : List ℕ} → n ≡ 128 → a ≡ blanks n → b ≡ over_if_room place.A1 (pad width.A1 (ascii "0128")) a
    → c ≡ over_if_room place.A2 (pad width.A2 (ascii "A")) b → d ≡ over_if_room place.A12 (pad width.A12 (ascii "1")) c → d ≡ lay record_a []
own_a l e f g h = h ∙ ap (over_if_room place.A12 _) (g ∙ ap (over_if_room place.A2 _) (f ∙ ap (over_if_room place.A1 _) (e ∙ ap blanks l))) ∙ laid_a

-- ---- C

-- what a C of k parts has of its own, as it is written
abbrev own_of_c : ℕ → List ℕ
own_of_c k =
    over_if_room place.C18 (numeral width.C18 (k % 10 ^ width.C18)) (
    over_if_room place.C17a (pad width.C17a (ascii "1")) (
    over_if_room place.C9 (numeral width.C9 (0 % 10 ^ width.C9)) (
    over_if_room place.C2 (pad width.C2 (ascii "C")) (
    over_if_room place.C1 (numeral width.C1 (length_of k % 10 ^ width.C1)) (
    blanks (128 * section k))))))

laid_c : (k : ℕ) → k ≤ most_parts → own_of_c k ≡ lay (record_c k) []
unfolding below over_if_room numeral to_section_end to_next_part
laid_c k h = agree own_of_c (λ k. lay (record_c k) []) (suc most_parts) k refl (omega arith)

pub own_c : {k n : ℕ} {a b c d e f : List ℕ} → k ≤ most_parts → n ≡ 128 * section k → a ≡ blanks n
    → b ≡ over_if_room place.C1 (numeral width.C1 (length_of k % 10 ^ width.C1)) a → c ≡ over_if_room place.C2 (pad width.C2 (ascii "C")) b
    → d ≡ over_if_room place.C9 (numeral width.C9 (0 % 10 ^ width.C9)) c → e ≡ over_if_room place.C17a (pad width.C17a (ascii "1")) d
    → f ≡ over_if_room place.C18 (numeral width.C18 (k % 10 ^ width.C18)) e → f ≡ lay (record_c k) []
own_c {k = k} few l h₁ h₂ h₃ h₄ h₅ h₆ =
    let begun = h₂ ∙ ap (over_if_room place.C1 _) (h₁ ∙ ap blanks l) in
    h₆ ∙ ap (over_if_room place.C18 _) (h₅ ∙ ap (over_if_room place.C17a _) (h₄ ∙ ap (over_if_room place.C9 _) (h₃ ∙ ap (over_if_room place.C2 _) begun))) ∙ laid_c k few

-- ---- E

-- E as a record: what it has of its own, and its figures as fields
abbrev record_e : List Piece
record_e =
    own (ascii "0128")  -- E1
    ∷ own (ascii "E")  -- E2
    ∷ own (blanks width.E3)
    ∷ told (digits width.E4)
    ∷ told (digits width.E5)
    ∷ told (digits width.E6)
    ∷ told (digits width.E7)
    ∷ told (digits width.E8)
    ∷ own (blanks width.E9)
    ∷ []

abbrev figures : Totals → List (List ℕ)
figures t = numeral width.E4 t.count ∷ numeral width.E5 0 ∷ numeral width.E6 t.accounts ∷ numeral width.E7 t.bank_codes ∷ numeral width.E8 t.cents ∷ []

own_e : over_if_room place.E2 (pad width.E2 (ascii "E")) (over_if_room place.E1 (pad width.E1 (ascii "0128")) (blanks 128)) ≡ lay record_e []
unfolding over_if_room
own_e = refl

-- figure i, the number v in w digits
module _ (t : Totals) (i w v p : ℕ) {a b : List ℕ} (c : get_elem? (cells 0 record_e) i ≡ some (record { place = p; kind = digits w }))
    (f : get_elem? (figures t) i ≡ some (numeral w v)) (h : v < 10 ^ w) where
  figure : b ≡ over_if_room p (numeral w (v % 10 ^ w)) a → a ≡ lay record_e (take i (figures t)) → b ≡ lay record_e (take (suc i) (figures t))
  figure e s =
      e
      ∙ ap (λ n. over_if_room p (numeral w n) a) (mod-eq_of_lt h)
      ∙ ap (λ bs. over_if_room p bs a) (sym (pad_number w v))
      ∙ ap (over_if_room p (pad w (numeral w v))) s
      ∙ lay_step record_e (figures t) i (record { place = p; kind = digits w }) (numeral w v) c f

E1 : numeral width.E1 128 ≡ ascii "0128"
unfolding numeral
E1 = refl

E5 : numeral width.E5 0 ≡ zeros width.E5
unfolding numeral
E5 = refl

end_laid : (t : Totals) → lay record_e (figures t) ≡ write_end t
end_laid t =
    rw (pad_number width.E4 t.count, pad_number width.E5 0, pad_number width.E6 t.accounts, pad_number width.E7 t.bank_codes, pad_number width.E8 t.cents, E1, E5)

pub end_written : {t : Totals} {n : ℕ} {o₀ o₁ o₂ o₃ o₄ o₅ o₆ o₇ : List ℕ} → n ≡ 128 → Writable t → o₀ ≡ blanks n
    → o₁ ≡ over_if_room place.E1 (pad width.E1 (ascii "0128")) o₀ → o₂ ≡ over_if_room place.E2 (pad width.E2 (ascii "E")) o₁
    → o₃ ≡ over_if_room place.E4 (numeral width.E4 (t.count % 10 ^ width.E4)) o₂ → o₄ ≡ over_if_room place.E5 (numeral width.E5 (0 % 10 ^ width.E5)) o₃
    → o₅ ≡ over_if_room place.E6 (numeral width.E6 (t.accounts % 10 ^ width.E6)) o₄ → o₆ ≡ over_if_room place.E7 (numeral width.E7 (t.bank_codes % 10 ^ width.E7)) o₅
    → o₇ ≡ over_if_room place.E8 (numeral width.E8 (t.cents % 10 ^ width.E8)) o₆ → o₇ ≡ write_end t
end_written {t} l w h₀ h₁ h₂ h₃ h₄ h₅ h₆ h₇ =
    let s₂ = h₂ ∙ ap (over_if_room place.E2 _) (h₁ ∙ ap (over_if_room place.E1 _) (h₀ ∙ ap blanks l)) ∙ own_e in
    let s₃ = figure t 0 width.E4 t.count place.E4 refl refl w.count h₃ s₂ in
    let s₄ = figure t 1 width.E5 0 place.E5 refl refl (omega arith) h₄ s₃ in
    let s₅ = figure t 2 width.E6 t.accounts place.E6 refl refl w.accounts h₅ s₄ in
    let s₆ = figure t 3 width.E7 t.bank_codes place.E7 refl refl w.bank_codes h₆ s₅ in
    figure t 4 width.E8 t.cents place.E8 refl refl w.cents h₇ s₆ ∙ end_laid t
