pub mod Texts
pub mod Spots
pub mod Seeking
pub mod Example
