-- The number of parts that C18 tells, as the code looks for it: the file ends before it, no digits stand there, or it is told.
use Rattle.std.proofs.Common.{◌≡◌, ℕ, ◌+◌, false, List, length, leb, ap, ◌∙◌, arith}
use Rattle.std.specs.Result.{MatchResult}
use Rattle.form.specs.Reader.{Look, has, lacks}
use Rattle.form.specs.Place.{look_at}
use Rattle.layout.specs.Places as place
use Rattle.layout.specs.Widths as width
use Rattle.layout.specs.Steps.{or_nothing, parts_at}
use Rattle.fields.specs.Answers.{of_field, numbers}

pub count_missing : (f : List ℕ) (p : ℕ) → leb (p + place.parts) (length f) ≡ false → 0 ≡ parts_at f p
unfolding or_nothing look_at
count_missing f p e =
    let there : p + place.C18 + width.C18 ≡ p + place.parts = omega arith in
    let late : leb (p + place.C18 + width.C18) (length f) ≡ false = ap (λ q. leb q (length f)) there ∙ e in
    rw late

-- P: what is told of the code's answer where a number was read
pub count_told : {n : ℕ} (P : ℕ × ℕ → Type 0) (p q : ℕ) (l : Look ℕ) → MatchResult (of_field numbers p q l) P (λ r. n ≡ 0)
    → ((v : ℕ) → P (v, q) → n ≡ v) → n ≡ or_nothing l
unfolding of_field or_nothing
count_told P p q (has v) h k = k v h
count_told P p q (lacks z) h k = h
