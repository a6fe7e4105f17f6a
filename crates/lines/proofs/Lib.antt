-- What the proofs of this crate cite.
pub mod Replies
pub mod Streams
