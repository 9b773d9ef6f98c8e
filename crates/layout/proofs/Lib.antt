pub mod CellLaws
pub mod StandLaws
pub mod PaymentLaws
pub mod StepLaws
pub mod Promises
