pub mod Keys
pub mod Voice
pub mod Lifting
