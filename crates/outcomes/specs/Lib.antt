pub mod Outcome
pub mod Status
pub mod inner
