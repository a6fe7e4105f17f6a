mod Cited
pub mod Entry
pub mod Listed
pub mod Charged
mod Search
