-- What is proved of the envelope beyond its contracts, and the laws under it.
-- what the block call leaves
pub mod Outcomes
-- a decay ends at a progress of 33 / 32 at the latest
pub mod Settles
-- the limits part by part
pub mod Inside
-- every step and every note keeps the limits
pub mod Keeps
-- every step and every note gives values of an f64
pub mod Holds
-- consecutive samples
pub mod RunsOn
-- a lent part: one more value, a step within a stage, Idle and Sustain
pub mod Scaling
-- after any samples and any calls the envelope is accepted
pub mod Stays
-- two outcomes of a public function are equal
pub mod Unique
-- easy errors, by example
pub mod Examples
