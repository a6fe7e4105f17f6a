pub mod Figures
pub mod inner
