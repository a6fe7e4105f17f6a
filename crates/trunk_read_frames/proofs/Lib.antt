pub mod Leads
pub mod Marked
pub mod Frames
