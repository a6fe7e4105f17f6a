mod Cited
pub mod Stores
pub mod Asked
