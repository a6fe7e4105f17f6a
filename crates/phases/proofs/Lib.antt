pub mod Choice
pub mod Transitions
