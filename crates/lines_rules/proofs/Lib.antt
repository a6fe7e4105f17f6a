-- What the proofs of this crate and of the program cite, and what the program means.
pub mod Steps
pub mod Texts
pub mod Meaning
