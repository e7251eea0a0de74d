-- What the proofs of the block calls cite.
-- what a run leaves
pub mod Outcomes
-- every sample of a run is finite, and the phase after it below TAU
pub mod Sound
-- two outcomes of a public function are equal
pub mod Unique
