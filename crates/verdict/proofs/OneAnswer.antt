-- A statement that is an equation admits one answer. Nearly every public call states so of its result r, `r ≡ X`, and of each slice that it is
-- lent, `now out.exit ≡ X`, where X speaks of the arguments and of what the slices held at the entry, and these are given. Where X also
-- speaks of r, as for the columns of `load`, it is given as well: r is one by its own equation.
use mathlib.Core.Path.{◌≡◌, sym, ◌∙◌}

pub one_answer : {A : Type 0} (given : A) (r s : A) → r ≡ given → s ≡ given → r ≡ s
one_answer given r s d e = d ∙ sym e
