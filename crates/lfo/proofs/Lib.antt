-- What holds of the LFO beyond its contracts.
-- the laws of a call that is done
pub mod Finite
-- two outcomes of a public function are equal
pub mod Unique
