-- What is proved of a sample and of a block beyond the contracts; the crates that use this one cite it too.
-- one sample more, and a block continued
pub mod Steps
-- the invariant of every loop that fills a block
pub mod Loops
-- the ranges of a normalised phase, of a reduced phase and of dt
pub mod Normal
-- phase % TAU by integers
pub mod Remainders
-- a value is an f64 of at most 512 in size, and every sample of a block is finite
pub mod Values
-- two outcomes of a public function are equal
pub mod Unique
