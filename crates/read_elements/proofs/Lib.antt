-- What the proofs of the readers cite, beside the laws of the coding.
mod Patterns
pub mod Shortcut
