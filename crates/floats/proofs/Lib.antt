-- The laws of floats, in the order to read them: each file rests on those above it. First `le` and the operations as
-- statements on natural numbers, then the laws to cite. In the comment above a law, "A: B" says that B follows from A,
-- and a value of the format is a float that `fits` accepts.
--
-- `le` and `lt` as orders of numbers
pub mod Order
-- each operation on finite values, as the fraction that it rounds
pub mod Operations
-- the values of a format, and that rounding leaves them as they are
pub mod Held
-- results that are not negative, as rounded fractions, with the order of their fractions
pub mod Rounds
-- negation, and results that are not positive
pub mod Signed
-- results of either sign, as rounded fractions; each operation keeps the order
pub mod Near
-- x * t lies between 0 and x, for t in [0, 1]
pub mod Scale
-- each operation rises or falls with its arguments, where none is negative
pub mod Monotone
-- signs of results, and results within bounds, where no argument is negative
pub mod Ranges
-- the largest value of a format: finite means bounded
pub mod Largest
-- |x| ≤ a through each operation
pub mod Bounded
-- a long expression is finite if it is finite with its leaves at their largest sizes
pub mod Expression
-- how far a rounded value can lie below its fraction
pub mod Error
-- the remainder is exact, so it is below the divisor
pub mod Remainder
-- a + (b - a) * t stays between the bounds of a and b
pub mod Interpolation
-- the literals 0.0 and 1.0 of either width
pub mod Literals
-- fractions rounded up or down to whole numbers
pub mod Roof
-- the number of a bit pattern
pub mod Pattern
-- a positive number by its exponent field and digits
pub mod Fields
-- the floor from a fraction that equals the number
pub mod Floors
-- what the tests of `floor_f32` and `floor_by_bits` show
pub mod Tests
-- the floor of a number above 0 and below 2, by comparisons
pub mod Low
-- the floor is the greatest whole number not above x
pub mod Greatest
-- an f64 holds every f32, and has the same floor
pub mod Widths
-- x - floor(x) lies from 0 to 1
pub mod Fraction
-- a number is written in one way, and x * 1 is x
pub mod OneWay
-- the two zeros
pub mod Zeros
-- the remainder of x by y without a division
pub mod Units
-- a table's rule at each element, from one computed test
pub mod Carried
-- two outcomes of a public function are equal
pub mod Unique
