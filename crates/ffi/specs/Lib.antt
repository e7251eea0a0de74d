pub mod Version
pub mod Packed
pub mod Ffi
