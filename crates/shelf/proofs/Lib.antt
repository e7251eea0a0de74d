-- Laws of what this crate defines.
-- how many entries a shelf has, and where their words are
pub mod Count
-- fields packed into a word and unpacked
pub mod Digits
-- two outcomes of a public function are equal
pub mod Unique
-- no float of a state within the limits is a NaN, and its notes and velocities are bytes
pub mod Parts
-- the words of a state are read as that state
pub mod There
-- the state of an entry has that entry's words, so no bit is ignored
pub mod Back
-- words compared in three parts, without the number of records acted
pub mod Turns
-- that number renewed, and what words meet a state
pub mod Counted
-- the entries of a shelf, joined and found again
pub mod Whole
-- the test is 01's sentence, word by word
pub mod Sentence
-- entries by example
pub mod Examples
