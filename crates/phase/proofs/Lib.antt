-- What holds of the accumulator beyond its contracts.
-- from an accepted state every call hands back an accepted one
pub mod Keeps
-- examples: both ends of 0 to 1 are reached, and -0 wraps to +0
pub mod Examples
-- two outcomes of a public function are equal
pub mod Unique
