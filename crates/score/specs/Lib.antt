pub mod Record
pub mod Score
pub mod Below
pub mod Apart
pub mod Inner
