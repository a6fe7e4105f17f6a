pub mod History
pub mod Step
pub mod Noise
pub mod Events
