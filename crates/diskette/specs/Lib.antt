pub mod Writing
pub mod Fields
pub mod Answer
pub mod Medium
pub mod Cases
pub mod Limits
