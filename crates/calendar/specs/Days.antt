-- Days of the code and days of the rules, and the code's cases of a date.
use Rattle.document.specs.Calendar.{in_order, no_such_day, too_early, too_late}
use Rattle.document.specs.Calendar as document
use Rattle.calendar.specs.declared.Day.{Day}
use Rattle.calendar.specs.declared.DateCase.{DateCase}
use Rattle.calendar.specs.declared.DateCase.TheVariants.{InOrder, NoSuchDay, TooEarly, TooLate}

-- the day of the rules that a day of the code is
abbrev pub day_of : Day → document.Day
day_of d = record { day = d.day; month = d.month; year = d.year }

-- the day of the code that a day of the rules is
abbrev pub day_from : document.Day → Day
day_from d = record { day = d.day; month = d.month; year = d.year }

-- the case of the code that a case of the rules is
abbrev pub case_from : document.DateCase → DateCase
case_from in_order = InOrder
case_from no_such_day = NoSuchDay
case_from too_early = TooEarly
case_from too_late = TooLate
