pub mod TellingLaws
pub mod NamingLaws
pub mod CallLaws
pub mod MediumLaws
pub mod Numbers
pub mod Promises
pub mod MediumPromises
