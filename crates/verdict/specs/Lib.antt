pub mod Verdicts
pub mod Numbers
pub mod Lent
