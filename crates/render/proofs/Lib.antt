-- What holds of renders beyond the contracts, in the order to read it.
-- what a render and a continuing call leave, case by case
pub mod Outcomes
-- two outcomes of a public function are equal
pub mod Unique
