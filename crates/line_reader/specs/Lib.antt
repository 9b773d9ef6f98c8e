pub mod Reaching
pub mod Lines
pub mod Told
