pub mod Rerender
pub mod Inner
