pub mod Charges
pub mod Entries
pub mod Rates
pub mod Arguments
pub mod Frames
pub mod Thousandths
pub mod Stored
pub mod inner
