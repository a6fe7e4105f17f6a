pub mod Frames
pub mod Whole
pub mod One
