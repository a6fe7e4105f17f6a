pub mod Into
pub mod inner
