-- What is proved of documents, whatever form they are spelled in: the theorems that a reader looks for, passed on from where they are proved.

-- the days are exactly those stepped through from the first, and each has the next number; the span, counted, is so many days after
pub use Rattle.document.proofs.CalendarLaws.{every_day_stepped, every_step_a_day, tomorrow_next, span_counted}
-- the order of days is that of their numbers; what a date is, exactly when; too early and too late exclude each other and are all outside the span;
-- too early and too late in steps
pub use Rattle.document.proofs.DateCaseLaws.{before_counted, date_cases, legal_in_order, never_early_and_late, outside_span, early_stepped, late_stepped}
-- marks that leave room for the parts to come, one by one, are those legal by order and number
pub use Rattle.document.proofs.MarkLaws.{Walked, walked_legal, legal_walked}
-- the figures of E have room for what payments come to: the sums of account numbers and of bank codes never pass 17 digits
pub use Rattle.document.proofs.SumLaws.{account_room, bank_room, sums_fit, count_fits, cents_fit}
