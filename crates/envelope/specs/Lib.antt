pub mod Limits
pub mod Stages
pub mod Running
pub mod Scaled
pub mod Calls
pub mod Inner
