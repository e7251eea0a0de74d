pub mod Examples
pub mod Panel
