pub mod Walking
pub mod MakeAndHand
pub mod OneAnswer
pub mod Promises
