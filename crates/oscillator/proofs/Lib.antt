-- What holds of the oscillator beyond its contracts.
-- a run at depth 1, and the laws of a call that is done
pub mod Plain
-- two outcomes of a public function are equal
pub mod Unique
