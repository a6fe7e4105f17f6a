-- Definitions that only inner functions and lemmas cite.
pub mod Fronts
pub mod Halves
