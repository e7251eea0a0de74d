-- What holds of the desk's calls beyond the contracts, in the order to read it.
-- how long a listing is
pub mod Lines
-- each way out of a call
pub mod Cases
-- every answer fits its word
pub mod Fits
-- so a host reads the call's number, place and count in the word
pub mod ReadBack
-- worked examples: words, and which arguments are judged
pub mod Examples
-- two outcomes of a public function are equal
pub mod Unique
