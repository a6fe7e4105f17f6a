-- Definitions that only inner functions and lemmas cite.
pub mod Scan
pub mod Claim
