pub mod Ids
pub mod Before
pub mod Caller
