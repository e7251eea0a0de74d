-- What holds of re-renders beyond the contracts, in the order to read it.
-- the numbers of records acted renewed
pub mod Renewing
-- the plan, the run and the call, case by case
pub mod Cases
-- two outcomes of a public function are equal
pub mod Unique
