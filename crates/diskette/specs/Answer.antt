-- The answer to a file: accepted with what it says, or refused with a number and a place, and the figures that a result gives.
use Rattle.std.specs.Prelude.{ℕ, List, []}
use Rattle.form.specs.Reader.{Answer, accepted, refused, run}
use Rattle.verdict.specs.declared.Verdict.{Verdict}
use Rattle.verdict.specs.Verdicts.{accepting, refused_as}
use Rattle.document.specs.Values.{Payment, Document, Totals, no_totals, totals}
use Rattle.diskette.specs.Fields.{Name, document}

unfoldable pub answer : List ℕ → Answer Name Document
answer f = run document f

-- the payments of an answer; a refused file has none
unfoldable pub payments_of : Answer Name Document → List Payment
payments_of (accepted d) = d.payments
payments_of (refused r) = []

-- what is given back: the verdict, and the totals of the payments
pub record Outcome : Type 0 where
  pub verdict : Verdict
  pub totals : Totals

-- a refused file has no totals
unfoldable pub outcome : Answer Name Document → Outcome
outcome (accepted d) = record { verdict = accepting; totals = totals d.payments }
outcome (refused r) = record { verdict = refused_as r; totals = no_totals }
