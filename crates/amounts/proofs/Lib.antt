pub mod Bounded
pub mod Range
pub mod Currencies
pub mod Examples
