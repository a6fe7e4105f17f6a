-- What is proved of the element that is written round components.
pub mod Going
pub mod Left
pub mod Back
