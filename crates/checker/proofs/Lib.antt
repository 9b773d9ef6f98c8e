pub mod Laws
pub mod TurnLaws
pub mod CheckLaws
pub mod Promises
