pub mod Outcome
pub mod Lending
pub mod Summary
pub mod Sections
