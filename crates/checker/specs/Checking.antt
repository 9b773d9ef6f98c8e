-- What the check gives back: the outcome of the answer to the file, figure by figure; and what is told of one file, whatever follows it.
use Rattle.std.specs.Prelude.{ℕ, List}
use Rattle.document.specs.Values.{Payment, Document, Totals, no_totals, totals, together}
use Rattle.verdict.specs.Verdicts.{refusing}
use Rattle.diskette.specs.Answer.{Outcome}
use Rattle.fields.specs.declared.Refusal.{Refusal}
use Rattle.fields.specs.Answers.{Telling}
use Rattle.sums.specs.Sums.{sums_of}
use Rattle.checker.specs.declared.Checked.{Checked}
use Rattle.checker.specs.declared.FileRead.{FileRead}

abbrev pub checked_of : Outcome → Checked
checked_of o = record { verdict = o.verdict; count = o.totals.count; sums = sums_of o.totals }

-- what is given back of a refused file, which has no figures
abbrev pub refused_with : Refusal → Checked
refused_with r = checked_of (record { verdict = refusing r.number r.place; totals = no_totals })

-- ---- one file, whatever follows it

-- what is kept of a file whose payments come to t, with q behind E
abbrev pub file_of : Totals → ℕ → FileRead
file_of t q = record { count = t.count; sums = sums_of t; end = q }

abbrev pub files : Telling Document FileRead
files d q = file_of (totals d.payments) q

-- what is kept of the payments still to come, after payments that come to t
abbrev pub rest_on : Totals → Telling (List Payment) FileRead
rest_on t ps q = file_of (together t (totals ps)) q
