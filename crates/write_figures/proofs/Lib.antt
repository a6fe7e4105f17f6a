mod Cited
pub mod Forms
pub mod Sizes
pub mod Frames
pub mod Plain
mod Search
