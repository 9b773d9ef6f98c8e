-- Where the text of a part stands: behind its mark, which is where the layout has it.
use Prim.Native.Nat.{ℕ, suc, ◌-◌, ◌≤◌}
use native.Mathlib.Omega.{arith}
use mathlib.Core.Path.{◌≡◌, refl, ap, ◌∙◌}
use mathlib.Core.Bool.{true, false}
use lib.Dec.{leb, leb→le, le→leb}
use Rattle.form.specs.Kind.{numeral}
use Rattle.form.proofs.BelowLaws.{below, agree}
use Rattle.form.proofs.BoolLaws.{is_true, T_of, and_both, and_of}
use Rattle.document.specs.Marks.{most_parts}
use Rattle.diskette.specs.Writing.{to_section_end, to_next_part}
use Rattle.listing.specs.Records.{fields_with}
use Rattle.layout.specs.Cells.{cell_at}
use Rattle.finder.specs.declared.Wanted.{Wanted}
use Rattle.finder.specs.declared.Wanted.TheVariants.{C14a, C15, C16, Part as PartText}
use Rattle.finder.specs.Texts.{mark_place}
use Rattle.finder.specs.Seeking.{has_text}

-- a part of which a payment of k parts has the text is one of 1 to k
pub part_bounds : {i k : ℕ} → has_text (PartText i) k ≡ true → (1 ≤ i) × (i ≤ k)
part_bounds {i} {k} e = let b = and_both (leb 1 i) (leb i k) (T_of e) in (leb→le 1 i b.0, leb→le i k b.1)

-- a text that a payment has, the longest has
pub longest_has : (w : Wanted) (k : ℕ) → k ≤ most_parts → has_text w k ≡ true → has_text w most_parts ≡ true
longest_has C14a k h e = refl
longest_has C15 k h e = refl
longest_has C16 k h e = refl
longest_has (PartText i) k h e =
    let b = part_bounds {i = i} {k = k} e in
    is_true (has_text (PartText i) most_parts) (and_of (leb 1 i) (leb i most_parts) (le→leb 1 i b.0) (le→leb i most_parts (omega arith)))

-- the mark of part i stands where the layout has it
pub mark_place_lem : (i : ℕ) → 1 ≤ i → i ≤ most_parts → (cell_at false (fields_with (i - 1))).place ≡ mark_place i
unfolding below numeral to_section_end to_next_part
mark_place_lem i l h =
    let e : suc (i - 1) ≡ i = omega arith in
    agree (λ i. (cell_at false (fields_with i)).place) (λ i. mark_place (suc i)) most_parts (i - 1) refl (omega arith) ∙ ap mark_place e
