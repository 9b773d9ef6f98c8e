pub mod BegunLaws
pub mod LoopLaws
pub mod PlaceLaws
pub mod TextLaws
pub mod SpotLaws
pub mod Promises
