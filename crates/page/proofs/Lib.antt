-- Laws on what this crate defines, in the order to read them.
-- an edit of an accepted score leaves an accepted score
pub mod Taken
-- the score in a room after an insert or a remove
pub mod Fronts
-- the record of an edit, judged as a score of one record
pub mod Judging
-- the edits, one after the other
pub mod Steps
-- the call, refusal by refusal, beside a re-render
pub mod Calls
-- what a list of one edit does, said of records
pub mod Records
-- two outcomes of the public function are equal
pub mod Unique
