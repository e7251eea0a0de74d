pub mod Listing
pub mod Outcome
pub mod Inner
