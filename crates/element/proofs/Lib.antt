pub mod Tiling
pub mod Tiles
pub mod Examples
