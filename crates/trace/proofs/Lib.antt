mod Cited
pub mod Laying
pub mod Bounds
pub mod Whole
