-- What holds of the judging beyond the contracts, in the order to read it.
-- the refusals case by case, and what is true of a call that has none
pub mod Refusals
-- sizes that fit and sizes that do not
pub mod Examples
-- two outcomes of a public function are equal
pub mod Unique
