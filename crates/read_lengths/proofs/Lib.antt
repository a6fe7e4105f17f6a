-- What the proofs of the readers cite, beside the laws of the coding.
mod Sought
pub mod Answers
pub mod Shortcut
