mod Cited
pub mod Equal
