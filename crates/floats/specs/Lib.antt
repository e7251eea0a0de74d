pub mod Range
pub mod Floor
pub mod Double
