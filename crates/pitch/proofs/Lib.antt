-- Laws on what this crate defines, in the order to read them.
-- the rules of the 128 pitches
pub mod Rules
-- two outcomes of a public function are equal
pub mod Unique
