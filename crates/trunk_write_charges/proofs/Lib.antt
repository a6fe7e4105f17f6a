pub mod Figures
pub mod Charges
pub mod Octets
