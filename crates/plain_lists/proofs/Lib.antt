pub mod Figures
pub mod Numbered
