pub mod Identifiers
pub mod Sets
pub mod Advice
