-- What a file that is not acceptable is given, as one statement.
use Prim.Native.Nat.{ℕ, ◌+◌, ◌≤◌}
use mathlib.Core.Path.{◌≡◌}
use mathlib.Core.Logic.{◌≢◌}
use mathlib.Core.List.{List}
use lib.ListN.{length, take}
use lib.Dec.{T}
use Rattle.form.specs.Kind.{one_of}
use Rattle.form.specs.Reader.{Refusal, refused}
use Rattle.verdict.specs.declared.Verdict.{Verdict}
use Rattle.verdict.specs.Verdicts.{refused_as}
use Rattle.verdict.specs.Numbers.{of_file}
use Rattle.diskette.specs.Writing.{Begin}
use Rattle.diskette.specs.Fields.{Name}
use Rattle.diskette.specs.Answer.{answer}

-- What a file that is not acceptable is given, whichever call looks at it: one of the numbers of a file, a place in it or at its end, and both
-- halves of demand 3. The field is the one of the answer's own refusal, and the answer is a function of the file: so neither place nor width
-- is left to choose. With a width of one's own the second half would be met by place 0 and the whole file.
pub record RefusedFile (f : List ℕ) (v : Verdict) : Type 0 where
  pub refusal : Refusal Name
  pub answered : answer f ≡ refused refusal
  pub verdict : v ≡ refused_as refusal
  pub number : T (one_of of_file v.number)
  pub inside : v.place ≤ length f
  pub ahead : Begin (take v.place f)
  pub through : v.number ≢ 1 → ¬ Begin (take (v.place + refusal.width) f)
