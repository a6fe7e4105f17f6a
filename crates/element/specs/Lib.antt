pub mod Element
pub mod Cut
