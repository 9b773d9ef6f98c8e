-- finder::text_place meets its contract: the three fields, and behind the mark of a part.
use Prim.Native.Nat.{◌+◌, ◌-◌, ◌≤◌}
use native.Mathlib.Omega.{arith}
use mathlib.Core.Path.{sym, ap, subst, ◌∙◌}
use Rattle.document.specs.Marks.{most_parts}
use Rattle.layout.specs.Widths as width
use Rattle.layout.proofs.CellLaws.{mark_below}
use Rattle.finder.specs.Texts.{place_of}
use Rattle.finder.specs.Seeking.{has_text}
use Rattle.finder.proofs.PlaceLaws.{part_bounds, mark_place_lem}
use Rattle.finder.proofs.text_place.Goals as goal
use Rattle.finder.proofs.text_place.Goals.{In-Part}

bounds : (c : In-Part) → (1 ≤ c.in-Part.i) × (c.in-Part.i ≤ most_parts)
bounds c = part_bounds (ap (λ w. has_text w most_parts) (sym c.in-Part.is) ∙ c.requires)

pub overflow_add-result : goal.overflow_add-result
overflow_add-result c =
    let b = bounds (goal.at.overflow_add-result c).In-Part in
    let h = subst (λ n. n ≤ 768) (sym c.mark_at.ensures) (mark_below (c.in-Part.i - 1) (omega arith)) in
    omega arith

pub returns-in-Part : goal.returns-in-Part
returns-in-Part c =
    let w = c.in-Part in
    let b = bounds (goal.at.returns-in-Part c).In-Part in
    ap (λ n. n + width.mark) (c.mark_at.ensures ∙ mark_place_lem w.i b.0 b.1) ∙ sym (ap place_of w.is)
