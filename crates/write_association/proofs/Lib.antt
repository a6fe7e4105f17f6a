mod Cited
pub mod Sizes
mod Search
