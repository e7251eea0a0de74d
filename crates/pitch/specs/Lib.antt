pub mod Patterns
pub mod Pitch
pub mod Tuning
