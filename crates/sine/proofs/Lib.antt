-- Laws on what this crate defines, in the order to read them.
-- the rules of the quarter wave
pub mod Rules
-- the four quadrants by two tests
pub mod Quadrants
-- whole numbers as floats
pub mod Wholes
-- whole part and the rest
pub mod Parts
-- the whole part by a sum
pub mod Sums
-- the reading, case by case
pub mod Points
-- a reading lies from -1 to 1
pub mod Bounds
-- the whole wave, unfolded from the quarter
pub mod Levels
-- its reading is the quarter's
pub mod Whole
-- readings at the quarters
pub mod Examples
-- two outcomes of a public function are equal
pub mod Unique
