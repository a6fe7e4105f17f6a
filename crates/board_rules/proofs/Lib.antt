pub mod Slots
pub mod Table
pub mod Rules
pub mod ByValue
pub mod Refused
pub mod Lives
pub mod Examples
