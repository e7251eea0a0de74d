pub mod Remainders
pub mod Inner
