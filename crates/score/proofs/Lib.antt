-- What is proved of scores beyond the contracts, in reading order: each file rests on those above it.
-- the list of f 0 to f (k - 1), and consecutive elements of a list as such a list
pub mod UpTo
-- a record to its ten bytes and back
pub mod Codec
-- what is true of an accepted score, and that no other test exists
pub mod Verdicts
-- a score is accepted exactly when it is the encoding of at most 4,096 valid records in order
pub mod Accepted
-- the records below a position are the first ones, and `count_below` says how many
pub mod Cuts
-- a score that grows only at its end
pub mod Grown
-- the first difference of two scores does not depend on their order
pub mod Parted
-- two scores have the same records below their first difference, and no difference exactly where they are equal
pub mod Agree
-- the position of the first difference cannot be higher
pub mod Reached
-- two scores have the same records from a position on exactly above their last difference: where a re-render may stop
pub mod Ends
-- a record sought by its ten bytes
pub mod Sought
-- the tests that read several bytes as one number
pub mod Words
-- one turn of the check
pub mod Turns
-- 01's example, and its edges
pub mod Examples
-- two outcomes of a public function are equal
pub mod Unique
