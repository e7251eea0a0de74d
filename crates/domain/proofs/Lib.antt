-- two outcomes of a public function are equal
pub mod Unique
