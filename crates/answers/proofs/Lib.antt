-- Laws on what this crate defines, in the order to read them.
-- lists of refusals, of which the first decides
pub mod Order
-- two outcomes of a public function are equal
pub mod Unique
