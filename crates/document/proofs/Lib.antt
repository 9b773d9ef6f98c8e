pub mod CalendarLaws
pub mod DateCaseLaws
pub mod DateLaws
pub mod MarkLaws
pub mod FieldLaws
pub mod SumLaws
pub mod Promises
