-- What holds of the lanes beyond their contracts.
-- a lane beside the single form
pub mod Rules
-- the calls, lane by lane
pub mod Lanewise
-- 0.5 is the exact bound
pub mod Bounds
-- in the domain every lane's value is finite
pub mod Finite
-- the calls beside the single ones, for dt at most 0.5
pub mod Same
-- worked examples
pub mod Examples
-- two outcomes of a public function are equal
pub mod Unique
