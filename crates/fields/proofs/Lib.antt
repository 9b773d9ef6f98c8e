pub mod WalkLaws
pub mod AnswerLaws
pub mod LeafLaws
pub mod StretchLaws
pub mod SignLaws
pub mod DigitLaws
pub mod KindLaws
pub mod StepLaws
