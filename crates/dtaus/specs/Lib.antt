pub mod Figures
pub mod Calls
pub mod Example
pub mod Version
