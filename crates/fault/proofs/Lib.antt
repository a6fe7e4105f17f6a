pub mod Theorems
pub mod Back
pub mod Running
pub mod Examples
