pub mod Each
pub mod Slices
