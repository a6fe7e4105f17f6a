pub mod Octets
pub mod Outcomes
pub mod Fits
pub mod Theorems
pub mod Family
