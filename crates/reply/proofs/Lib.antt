pub mod DecimalLaws
pub mod LineLaws
pub mod ReplyLaws
pub mod Promises
