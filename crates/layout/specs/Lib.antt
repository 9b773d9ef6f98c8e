pub mod Widths
pub mod Places
pub mod Lines
pub mod Cells
pub mod Steps
