pub mod Truth
pub mod Tests
pub mod Valid
mod Search
