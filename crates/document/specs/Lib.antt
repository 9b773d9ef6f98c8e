pub mod Signs
pub mod Calendar
pub mod Values
pub mod Rules
pub mod Medium
pub mod Marks
pub mod Examples
