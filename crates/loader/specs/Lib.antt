pub mod Columns
pub mod Loading
pub mod Filling
pub mod Medium
pub mod Example
pub mod MediumExample
