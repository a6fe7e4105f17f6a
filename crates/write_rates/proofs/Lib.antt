pub mod Tables
pub mod Places
pub mod Listed
mod Search
