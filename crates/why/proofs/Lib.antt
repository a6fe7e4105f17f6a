pub mod Seeing
pub mod Theorems
pub mod Priced
