-- The figures of a result, in the order in which the lent numbers get them, and what these hold afterwards.
use Rattle.std.specs.Prelude.{ℕ, cond, List, [], ◌∷◌, length, leb}
use Rattle.verdict.specs.Lent.{filled}
use Rattle.diskette.specs.Answer.{Outcome}
use Rattle.diskette.specs.Medium.{MediumOutcome}
use Rattle.output.specs.declared.Written.{Written}
use Rattle.finder.specs.declared.Spot.{Spot}

-- the figures of a check and of a load: number and place, the count, and the sums of account numbers, bank codes and cents
abbrev pub outcome_figures : Outcome → List ℕ
outcome_figures o = o.verdict.number ∷ o.verdict.place ∷ o.totals.count ∷ o.totals.accounts ∷ o.totals.bank_codes ∷ o.totals.cents ∷ []

-- the figures of a check and of a load of a medium: number and place, the number of files, and that of all their payments
abbrev pub medium_figures : MediumOutcome → List ℕ
medium_figures o = o.verdict.number ∷ o.verdict.place ∷ o.files ∷ o.payments ∷ []

-- the figures of a call that writes into an output: number and place, and how many bytes it wrote
abbrev pub written_figures : Written → List ℕ
written_figures w = w.verdict.number ∷ w.verdict.place ∷ w.length ∷ []

-- the figures of a stretch of the file: number and place, and where it begins and ends
abbrev pub spot_figures : Spot → List ℕ
spot_figures s = s.verdict.number ∷ s.verdict.place ∷ s.from ∷ s.to ∷ []

-- what a result holds afterwards: the figures, and behind them what it held before; where there is not room for all of them, what it held before
unfoldable pub told : List ℕ → List ℕ → List ℕ
told figures result = cond (leb (length figures) (length result)) (filled figures result) result
