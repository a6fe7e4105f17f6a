-- Definitions that only inner functions and lemmas cite.
pub mod Shown
pub mod Shortcut
pub mod Written
