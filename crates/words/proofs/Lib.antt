-- What the proofs of this crate cite.
-- the bytes of a word one by one
pub mod Sums
-- `same` holds exactly of equal lists
pub mod Same
-- two outcomes of a public function are equal
pub mod Unique
