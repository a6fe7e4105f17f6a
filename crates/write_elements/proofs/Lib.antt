-- What the proofs of the writers cite, beside the laws of the coding.
mod Bits
mod Inside
mod Search
pub mod Parts
