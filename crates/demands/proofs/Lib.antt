-- What was ordered of the calls together, in the order to read it.
-- a score's faults, each exactly when its row holds first
pub mod Faults
-- demand 1: each refusal of a call exactly when its row holds first, and then all is left as it came
pub mod Demand1
-- the same of a page of edits
pub mod PageRefusals
-- buffers cut at a section
pub mod Cut
-- what a render leaves, before a section, from one on, and between two
pub mod Whole
-- a shelf that a render left is never refused
pub mod Honest
-- where a re-render stops, and that both scores sound the same from there on
pub mod Stops
-- a continuing call, and the rest of a chain after it
pub mod Link
-- parts continued one after the other from the fresh state at 0 are one render
pub mod Chain
-- a chain whose calls are all done, and a chain with a call that is refused
pub mod ChainExamples
-- what a re-render leaves as it came, and what its outcome depends on
pub mod Alone
-- the position where two scores first differ is that of the first changed record
pub mod First
-- demand 3: from the start of its section on, a re-render is a render of the new score
pub mod Demand3
-- any number of edits leave what one render of the last score leaves
pub mod Edits
-- a page of edits is one re-render, and leaves what its edits leave one at a time
pub mod Pages
-- the summary: what it tells, that it stays right, and that every sample made is finite
pub mod Peaks
-- an edit that meets demand 3's premises, and two that meet those of `AnyEdits`, over rubbish
pub mod Example
-- a page of a remove and an insert at one position, which stops early
pub mod PagesExample
-- between two reductions the tremolo's LFO is the ported block, and depth 0 is no tremolo
pub mod Tremolo
-- no phase is ever negative where it is reduced: 01's branch for a negative remainder is never taken
pub mod NeverNegative
-- a note-on with velocity 0 is a note-off, and how a release is written is not heard
pub mod VelocityNought
-- a key is struck or joined: joined, it triggers the envelope only where no note was active just before
pub mod JoinedNotes
