pub mod Dispatch
pub mod Extensions
pub mod Forms
pub mod Bodies
pub mod Frames
pub mod Sizes
