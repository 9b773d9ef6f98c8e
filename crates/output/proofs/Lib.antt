pub mod OverLaws
pub mod WritingLaws
pub mod DigitLaws
pub mod EndingLaws
pub mod LetterLaws
