pub mod Charges
pub mod Bodies
pub mod Components
pub mod Blank
pub mod Masks
pub mod Tests
pub mod Found
