-- What is proved of sections beyond the contracts, in reading order.
-- buffers whose sizes fit, and buffers that hold the same
pub mod Room
-- a list with items in place of others
pub mod Between
-- the summary: what it depends on, and that it stays right
pub mod Summed
-- what is made from a section up to a stop
pub mod Made
-- slices that are lent as one, and handed back
pub mod Lending
-- a turn of the loop over the sections
pub mod Turns
-- for an accepted score the sections are what the definitions of `state` make
pub mod Agrees
-- two outcomes of a public function are equal
pub mod Unique
