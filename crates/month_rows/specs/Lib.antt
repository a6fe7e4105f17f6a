pub mod Rows
pub mod Sums
pub mod Places
