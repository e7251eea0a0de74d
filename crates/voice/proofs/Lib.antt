-- What is proved of the keys and the voice beyond their contracts, in reading order.
-- the loops over one array
pub mod Arrays
-- two lists side by side
pub mod Pairs
-- dropping every pair of a note, on the list of pairs
pub mod Removal
-- two arrays of 16 as the list of the held keys
pub mod Held
-- the walk over both arrays
pub mod Walk
-- the limits of the keys, and their held list
pub mod Limits
-- striking and lifting a key keep the limits
pub mod Actions
-- a velocity as a factor
pub mod Loudness
-- from a state within the limits every call leaves one; what a reset leaves
pub mod Keeps
-- which of the three a lift says, exactly, and what it leaves
pub mod Lifting
-- two outcomes of a public function are equal
pub mod Unique
