pub mod Tails
pub mod One
