-- What the proofs of this crate and of those above cite.
-- the loop over a lent part
pub mod Multiplying
-- an accepted LFO, setting by setting
pub mod Limits
-- the size of the factor, and of a sample times the factor
pub mod Sizes
-- depth 0 changes no sample
pub mod Flat
-- a step that changes nothing
pub mod Unmoved
-- two outcomes of a public function are equal
pub mod Unique
