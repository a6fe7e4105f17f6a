pub mod Silence
pub mod Replies
