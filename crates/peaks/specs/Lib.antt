pub mod Peaks
pub mod Inner
