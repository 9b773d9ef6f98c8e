pub mod Lines
pub mod Listing
pub mod Records
pub mod Composing
pub mod Endings
