mod Cited
pub mod Claims
pub mod Histories
pub mod Scans
