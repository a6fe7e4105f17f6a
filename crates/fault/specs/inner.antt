-- Definitions that only inner functions and lemmas cite.
pub mod Going
pub mod Running
