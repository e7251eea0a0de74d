pub mod Table
pub mod Wave
pub mod Sine
pub mod Whole
pub mod Inner
