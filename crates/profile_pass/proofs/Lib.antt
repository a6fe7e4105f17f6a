pub mod Passing
pub mod One
