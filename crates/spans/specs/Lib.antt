pub mod Walk
pub mod Inner
