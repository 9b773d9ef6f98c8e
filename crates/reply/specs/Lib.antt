pub mod Reply
pub mod Examples
