mod Cited
pub mod Answers
mod Kept
pub mod Texts
