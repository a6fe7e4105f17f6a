pub mod Stores
pub mod Steps
