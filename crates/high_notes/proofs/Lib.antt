-- What the proofs of this crate and of those above cite.
-- phases and their values in a lent list, without a branch
pub mod Remaking
-- the remainders of phases over TAU, by differences
pub mod Wraps
-- two edges that are apart
pub mod Edges
-- two outcomes of a public function are equal
pub mod Unique
