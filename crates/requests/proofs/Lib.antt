pub mod Signed
pub mod Members
