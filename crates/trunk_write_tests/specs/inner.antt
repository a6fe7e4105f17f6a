-- Definitions that only inner functions and lemmas cite.
pub mod Fine
pub mod Masks
