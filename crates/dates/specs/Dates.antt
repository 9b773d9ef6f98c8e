-- What the readers of the header's two days keep: the day that a number names, as the code holds it.
use Rattle.std.specs.Prelude.{ℕ}
use Rattle.std.proofs.Math.Option.{Option, none, some}
use Rattle.document.specs.Calendar.{of_ddmmyy}
use Rattle.document.specs.Calendar as document
use Rattle.diskette.specs.Fields.{execution_of}
use Rattle.calendar.specs.declared.Day.{Day}
use Rattle.calendar.specs.Days.{day_from}
use Rattle.fields.specs.Answers.{Telling}
use Rattle.dates.specs.declared.Execution.{Execution}
use Rattle.dates.specs.declared.Execution.TheVariants.{Absent, On}

abbrev pub days : Telling ℕ (Day × ℕ)
days n q = (day_from (of_ddmmyy n), q)

abbrev pub execution_in : Option document.Day → Execution
execution_in none = Absent
execution_in (some d) = On (day_from d)

abbrev pub executions : Telling (Option ℕ) (Execution × ℕ)
executions n q = (execution_in (execution_of n), q)
