pub mod Demand
pub mod Noise
pub mod Examples
pub mod Parked
