-- The parts as the steps in which the code reads them.
-- Where no part is left, what the parts give is what the blanks that close the last section give (`parts_over`); else come the blanks behind the
-- part before, a mark, a text, and what the parts that are then left give (`part_steps`). Nothing is kept of a part but the place behind it, so
-- what is made of the parts behind it makes no difference (`place_kept`).
use Rattle.std.proofs.Common.{◌≡◌, ℕ, zero, suc, ◌+◌, ◌-◌, ◌<◌, List, [], ◌∷◌, Ok, Err, refl, ◌∙◌, arith}
use Rattle.form.specs.Kind.{digits}
use Rattle.form.specs.Form.{Form, ret, ◌>>=◌}
use Rattle.form.specs.Place.{look_at, field_at, read_at}
use Rattle.document.specs.Marks.{room_after}
use Rattle.diskette.specs.Writing.{section, to_section_end, to_next_part}
use Rattle.diskette.specs.Fields.{Name, text27, mark_rules, closing_blanks, parts}
use Rattle.diskette.proofs.PartsSays.{one_part}
use Rattle.fields.specs.Answers.{Reading, of_field, of_read, passings, numbers}
use Rattle.fields.proofs.StepLaws.{Gives, at_end, onward, step, step_part, step_ruled}

-- the place behind a form from p on, or why it is refused
abbrev pub ends : {A : Type 0} → Form Name A → List ℕ → ℕ → Reading ℕ
ends m s p = of_read passings (read_at m s p)

-- what is made of a form's value makes no difference where the place alone is kept
place_kept : {A B : Type 0} {f : List ℕ} (m : Form Name A) (h : A → B) {p : ℕ} → Gives passings f (m >>= λ a. ret (h a)) p (ends m f p)
place_kept {A} {B} {f} m h {p} =
    let g : Gives passings f (m >>= λ a. ret (h a)) p (onward (ends m f p) (λ q. Ok q)) = step_part m (λ a. ret (h a)) passings _ (λ a q e. at_end) in
    record { is = g.is ∙ all_told (ends m f p) }
  where
    all_told : (r : Reading ℕ) → onward r (λ q. Ok q) ≡ r
    all_told (Ok q) = refl
    all_told (Err r) = refl

-- what the code answers of one part behind part i, and of those behind it, so many as are left
abbrev pub part_told : ℕ → ℕ → ℕ → List ℕ → ℕ → Reading ℕ
part_told left i room s p =
    onward (ends (closing_blanks (section i) (to_next_part i)) s p) (λ start.
    onward (of_field numbers start (start + 2) (field_at (digits 2) (mark_rules room left) s start)) (λ m.
    onward (of_field (passings {X = List ℕ}) m.1 (m.1 + 27) (look_at text27 s m.1)) (λ q.
    ends (parts left (suc i) (room_after m.0 room)) s q)))

module _ (i room : ℕ) (s : List ℕ) (p : ℕ) where
  over : Gives passings s (parts zero i room) p (ends (closing_blanks (section i) (to_section_end i)) s p)
  unfolding parts
  over = place_kept (closing_blanks (section i) (to_section_end i)) (λ u. [])

  next : (left : ℕ) → Gives passings s (parts (suc left) i room) p (part_told left i room s p)
  unfolding parts
  next left =
      step_part (closing_blanks (section i) (to_next_part i)) (λ u. one_part left i room) passings _ (λ u start e.
      step_ruled numbers _ (λ m. step passings _ (λ t. place_kept (parts left (suc i) (room_after m room)) (λ ps. record { mark = m; words = t } ∷ ps))))

  pub parts_over : (left : ℕ) → left ≡ 0 → ends (parts left i room) s p ≡ ends (closing_blanks (section i) (to_section_end i)) s p
  parts_over left e = rw e over.is

  pub part_steps : (left : ℕ) → 0 < left → ends (parts left i room) s p ≡ part_told (left - 1) i room s p
  part_steps zero h = absurd (omega arith)
  part_steps (suc left) h = let e : suc left - 1 ≡ left = omega arith in rw e (next left).is
