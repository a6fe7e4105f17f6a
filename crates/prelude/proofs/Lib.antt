pub mod Prelude
pub mod Ways
