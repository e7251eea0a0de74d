-- What is proved of peaks beyond the contracts, in reading order.
-- magnitudes beside zero and beside the peak so far
pub mod Magnitudes
-- what holds of the peak of every list
pub mod Bounds
-- a group of samples: passed over, or looked at one by one
pub mod Groups
-- what the peak of finite samples means, and that there is no other
pub mod Meaning
-- worked examples
pub mod Examples
-- two outcomes of a public function are equal
pub mod Unique
