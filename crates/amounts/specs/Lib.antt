pub mod Currency
pub mod Amounts
