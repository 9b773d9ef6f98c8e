-- The texts of a payment that stands in a file, at their places.
use Prim.Native.Nat.{ℕ, zero, suc, ◌+◌, ◌≤◌, ◌<◌}
use native.Mathlib.Nat.{zero-add, add-zero}
use native.Mathlib.Omega.{arith}
use mathlib.Core.Path.{◌≡◌, refl, subst, ◌∙◌}
use mathlib.Core.Option.{some, some-injective, none-ne-some}
use mathlib.Core.List.{List, [], ◌∷◌}
use lib.ListN.{length, take, drop, get_elem?, length-append, length-replicate}
use Rattle.form.specs.Kind.{numeral, blanks}
use Rattle.form.proofs.BelowLaws.{below, agree}
use Rattle.form.proofs.KindLaws.{numeral_length}
use Rattle.document.specs.Values.{Part, Payment}
use Rattle.document.specs.Rules.{All, Text}
use Rattle.document.specs.Marks.{most_parts}
use Rattle.diskette.specs.Writing.{in_turn, to_section_end, to_next_part, write_parts}
use Rattle.layout.specs.Places as place
use Rattle.layout.specs.Widths as width
use Rattle.layout.proofs.StandLaws.{Stand, first_bytes, behind_first, first_inside, opened}
use Rattle.layout.proofs.PaymentLaws.{Begun, fields_of, few}
use Rattle.finder.specs.declared.Wanted.{Wanted}
use Rattle.finder.specs.declared.Wanted.TheVariants.{C14a, C15, C16, Part as PartText}
use Rattle.finder.specs.Texts.{words_of, text_of, text_width, place_of}

-- fields that stand at a place, with the place counted in another way
stand_at : {f : List ℕ} {p q : ℕ} {fields : List (List ℕ)} → Stand f p fields → p ≡ q → Stand f q fields
stand_at {f} {fields = fields} s e = subst (λ q. Stand f q fields) e s

-- the fields behind the first k, which take n bytes
behind_fields : {f : List ℕ} (k : ℕ) {p n : ℕ} (fields : List (List ℕ)) → Stand f p fields → length (in_turn (take k fields)) ≡ n
    → Stand f (p + n) (drop k fields)
behind_fields zero fields s e = stand_at s (omega arith)
behind_fields (suc k) [] s e = stand_at s (omega arith)
behind_fields (suc k) (a ∷ fields) s e =
    stand_at (behind_fields k fields (behind_first s refl) refl) (omega (arith, length-append a (in_turn (take k fields))))

-- ---- the parts

-- the parts behind part i: the text of the first of them, behind its mark
part_text : {f : List ℕ} {n : ℕ} (i : ℕ) (q : Part) (qs : List Part) → Stand f n (write_parts i (q ∷ qs) ∷ [])
    → Stand f (n + to_next_part i + width.mark) (q.words ∷ write_parts (suc i) qs ∷ [])
part_text i q qs s =
    let part = opened (blanks (to_next_part i) ∷ numeral width.mark q.mark ∷ q.words ∷ write_parts (suc i) qs ∷ []) s in
    behind_first (behind_first part (length-replicate {A = ℕ} (to_next_part i) 0x20)) (numeral_length width.mark q.mark)

-- from the end of C18 to the text of part 1
first_place : place.parts + to_next_part 0 + width.mark ≡ place_of (PartText 1)
unfolding to_section_end to_next_part
first_place = refl

-- from the text of a part to that of the next: its bytes, the blanks up to the next part, and the mark
next_place : (i : ℕ) → i < most_parts → place_of (PartText (suc i)) + text_width + to_next_part (suc i) + width.mark ≡ place_of (PartText (suc (suc i)))
unfolding below to_section_end to_next_part
next_place i h =
    agree (λ i. place_of (PartText (suc i)) + text_width + to_next_part (suc i) + width.mark) (λ i. place_of (PartText (suc (suc i)))) most_parts i refl h

-- ---- the payment

module _ {f : List ℕ} {p : ℕ} {x : Payment} (b : Begun f p x) where
  -- a text of the payment x, which begins at p: its bytes, and that they end in the file
  pub record Standing (w : Wanted) (t : List ℕ) : Type 0 where
    pub bytes : take text_width (drop (p + place_of w) f) ≡ t
    pub inside : p + place_of w + text_width ≤ length f

  -- a text of the payment, where it is the first of the fields that stand at its place
  standing : (w : Wanted) {u t : List ℕ} {others : List (List ℕ)} → Text u → Stand f (p + place_of w) (u ∷ others) → some u ≡ some t
      → Standing w t
  standing w {u} {t} h c e =
      record { bytes = first_bytes c h.long ∙ some-injective u t e; inside = first_inside c h.long (omega arith) }

  -- the parts behind part i stand at n, and n is such that the text of the first of them is at its place: then so is that of each
  part_stands : (i j n : ℕ) (qs : List Part) → All (λ (q : Part). Text q.words) qs → i + length qs ≤ most_parts
      → n + to_next_part i + width.mark ≡ p + place_of (PartText (suc i)) → Stand f n (write_parts i qs ∷ [])
      → (t : List ℕ) → words_of (get_elem? qs j) ≡ some t → Standing (PartText (suc (i + j))) t
  part_stands i j n [] a h at c t e = absurd (none-ne-some t e)
  part_stands i zero n (q ∷ qs) a h at c t e = rw (add-zero i) (standing (PartText (suc i)) a.0 (stand_at (part_text i q qs c) at) e)
  part_stands i (suc j) n (q ∷ qs) a h at c t e =
      let there : suc (i + suc j) ≡ suc (suc i + j) = omega arith in
      let others = behind_first (part_text i q qs c) a.0.long in
      rw there (part_stands (suc i) j _ qs a.1 (omega arith) (omega (arith, next_place i (omega arith))) others t e)

  -- the parts stand behind the fields before them
  parts_stand : Stand f (p + place.parts) (write_parts 0 x.parts ∷ [])
  parts_stand =
      let l = b.legal in
      behind_fields 21 (fields_of x) b.stand (simp (length-append, numeral_length) (omega (arith, l.C14a.long, l.C15.long, l.C16.long)))

  pub text_stands : (w : Wanted) (t : List ℕ) → text_of w x ≡ some t → Standing w t
  text_stands C14a t e =
      let l = b.legal in
      standing C14a l.C14a (behind_fields 14 (fields_of x) b.stand (simp (length-append, numeral_length) (omega arith))) e
  text_stands C15 t e =
      let l = b.legal in
      standing C15 l.C15 (behind_fields 16 (fields_of x) b.stand (simp (length-append, numeral_length) (omega (arith, l.C14a.long)))) e
  text_stands C16 t e =
      let l = b.legal in
      standing C16 l.C16 (behind_fields 17 (fields_of x) b.stand (simp (length-append, numeral_length) (omega (arith, l.C14a.long, l.C15.long)))) e
  text_stands (PartText zero) t e = absurd (none-ne-some t e)
  text_stands (PartText (suc i)) t e =
      rw (zero-add i) at
      (part_stands 0 i (p + place.parts) x.parts b.legal.words (omega (arith, few b)) (omega (arith, first_place)) parts_stand t e)
