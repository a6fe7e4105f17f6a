mod Cited
pub mod Three
pub mod Prices
pub mod Octets
