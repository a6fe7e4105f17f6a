pub mod Refusals
pub mod Judging
pub mod Claims
