pub mod Whole
pub mod inner
