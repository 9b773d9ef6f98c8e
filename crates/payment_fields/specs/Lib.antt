pub mod Ruled
pub mod Stretches
pub mod Summed
