-- What was ordered of the calls together, proved of the calls that C makes, in the order to read it.
-- number 0 in a word is an answer that is done
pub mod Zero
-- what a host asks for is known or unknown
pub mod Codes
-- a continuing call on the words of a state is that call on the state
pub mod Call
-- so a chain of such calls leaves what the chain on states leaves
pub mod Tells
-- parts continued in words one after the other are one render
pub mod FfiChain
-- demand 3: from the start of its section on, gav_rerender is gav_render of the new score
pub mod FfiDemand3
-- any number of edits leave what one render of the last score leaves
pub mod FfiEdits
-- a page of edits leaves what its edits leave one at a time, and a page for each of them takes the same fronts
pub mod FfiPages
-- the summary: right after a gav_render, and after every gav_rerender where it came so
pub mod FfiPeaks
-- a chain and edits that meet the premises
pub mod Example
