-- What the check of a medium gives back: the outcome of the answer to the medium, figure by figure.
use Rattle.verdict.specs.Verdicts.{refusing}
use Rattle.diskette.specs.Medium.{MediumOutcome}
use Rattle.fields.specs.declared.Refusal.{Refusal}
use Rattle.medium.specs.declared.MediumChecked.{MediumChecked}

abbrev pub medium_checked_of : MediumOutcome → MediumChecked
medium_checked_of o = record { verdict = o.verdict; files = o.files; payments = o.payments }

-- what is given back of a refused medium, which has no figures
abbrev pub refused_with : Refusal → MediumChecked
refused_with r = medium_checked_of (record { verdict = refusing r.number r.place; files = 0; payments = 0 })
