pub mod Answer
pub mod Changed
pub mod Numbers
pub mod Order
pub mod Outcome
pub mod Value
