mod Cited
pub mod Codes
pub mod Answers
pub mod Entered
pub mod Short
