-- Laws of what this crate defines.
-- cut anywhere: j samples and then k are j + k
pub mod RunsOn
-- entries: j and then k are j + k
pub mod Entries
-- what is made depends only on the positions and events between
pub mod Depends
-- how a key's release is written is not heard, and no record strikes with velocity 0
pub mod ButReleases
-- two runs side by side over one score
pub mod Beside
-- no sample depends on the number of records acted
pub mod ButActed
-- from a position on, the records from there on decide: why a re-render may stop early
pub mod Tail
-- the LFO changes nothing but the factor
pub mod ButLfo
-- that number is the number of records below the position
pub mod Acted
-- a property that the steps keep is true at every sample
pub mod Lasting
-- what a key does to the envelope, struck and joined, and that an active note's envelope is open
pub mod Joined
-- the floats of a state are values of an f64 after every step
pub mod Fits
-- the arrays of the keys have 16 places after every step
pub mod Arrays
-- the limits of a state part by part, and that events keep them
pub mod Limits
-- an event does what the calls of 01 do
pub mod Calls
-- how far a phase grows between two reductions
pub mod Ladder
-- a property of both phases at every sample, if all other fields are within their limits
pub mod Through
-- the limits are kept at every sample
pub mod Stays
-- a phase is never negative where it is reduced
pub mod NeverNegative
-- a sample is finite, with velocity 0 it is 0, and with depth 0 it has no tremolo
pub mod Silence
-- so is every sample of a run
pub mod Samples
-- two outcomes of a public function are equal
pub mod Unique
