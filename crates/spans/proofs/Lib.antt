-- What is proved of walks and spans beyond the contracts, in reading order.
-- where a record is and where a span ends, as offsets from a position
pub mod Offsets
-- the records at a sample act, one after the other
pub mod Acting
-- the tremolo over a span: the LFO's values and their products, or nothing at depth 0
pub mod Swaying
-- a span: the waveform's inner loop, then the envelope's, then the tremolo make its samples
pub mod Sounding
-- a turn of the loop over the spans, and how far the loop has come
pub mod Turns
pub mod Loops
-- cut anywhere: a walk of j samples and then one of k are one of j + k
pub mod GoesOn
-- in a score whose positions never fall a walk makes what the definitions of `state` make
pub mod Agrees
-- two outcomes of a public function are equal
pub mod Unique
