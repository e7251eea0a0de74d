-- What is proved of the inner loop beyond its contracts; the crates that use this one cite it too.
-- a block of any values, and one of a sine read from a lent table
pub mod Lent
-- two outcomes of a public function are equal
pub mod Unique
