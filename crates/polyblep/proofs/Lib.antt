-- What holds of the corrections and the waveforms beyond their contracts.
-- near a step or a corner, the distance from it is at most one sample
pub mod Corner
-- where no correction is due
pub mod Clear
-- every answer in the domain is finite
pub mod Finite
-- `third` is 1.0 / 3.0
pub mod Third
-- two outcomes of a public function are equal
pub mod Unique
-- the rounded corner, without rounding
pub mod Exactly
-- the rounded triangle beside `poly_blamp`, and by example
pub mod Examples
