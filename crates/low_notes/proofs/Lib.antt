-- What the proofs of this crate cite, in reading order.
-- a waveform between two corrections
pub mod Segments
-- the invariant of the loops over a segment
pub mod SegmentLoops
-- two outcomes of a public function are equal
pub mod Unique
