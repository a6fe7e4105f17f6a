pub mod Masks
mod Search
