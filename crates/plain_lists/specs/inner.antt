-- Definitions that only inner functions and lemmas cite.
pub mod Marked
