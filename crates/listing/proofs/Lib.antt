-- What the listing's proofs rest on.
-- the decimal digits of a number, and how many there are at most
pub mod Digits
-- texts put into a buffer one after the other
pub mod Puts
-- 01's example
pub mod Examples
-- two outcomes of the public function are equal
pub mod Unique
