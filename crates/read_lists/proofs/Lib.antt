pub mod Clear
pub mod Kept
