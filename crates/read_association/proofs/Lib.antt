mod Cited
pub mod Kept
pub mod Steps
