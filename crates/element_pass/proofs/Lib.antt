-- What is proved of one pass over an element.
pub mod Order
pub mod Through
pub mod Going
pub mod One
