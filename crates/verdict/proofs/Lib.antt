pub mod OneAnswer
pub mod LentLaws
pub mod NumberLaws
