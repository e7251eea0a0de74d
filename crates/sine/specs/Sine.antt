-- The reading of the quarter wave T. 01, "Pitch and sine": "A reading: p = u*4096, i its whole part, f = p - i; i =
-- 4096 is read as i = 0, f = 0. With j = i mod 1024, quadrant 0 reads a = T[j], b = T[j+1]; quadrant 1 reads a =
-- T[1024-j], b = T[1023-j]; quadrants 2 and 3 are the negatives of 0 and 1, negated as whole numbers, so a zero reads
-- as +0. The answer is (a + (b - a)*f)/2^30".
--
-- u is in cycles, 0 to 1. Any other u, a NaN too, is refused with 9, and there is no value. No sample is written, so
-- the count is 0. Each operation is rounded once.
--
-- T is an argument, so that a loop can be lent a table that is made once. The rule is one for all tables; the sine is
-- the reading of `quarter`. Definitions only.
use Rattle.std.specs.Prelude.{Bool, cond, List, ℕ, zero, suc, ◌+◌, ◌-◌, ◌/◌, ◌%◌, ℤ, pos, neg_ℤ, eqb, get_or, Float, Result}
use Rattle.std.specs.Float.{binary64}
use Rattle.std.specs.Float.Ieee.{of_bits, of_int}
use Rattle.std.specs.Float.Ieee.Positive.{num, den}
use Rattle.floats.specs.Range.{within}
use Rattle.floats.specs.Double.{◌⊕◌, ◌⊖◌, ◌⊗◌, ◌⊘◌, zero64, one}
use Rattle.answers.specs.declared.Refusal.TheVariants.{Argument}
use Rattle.answers.specs.Order.{unless}
use Rattle.answers.specs.Value.{value_or}
use Rattle.sine.specs.Table.{quarter}
use Rattle.answers.specs.declared.Refusal.{Refusal}

-- 4096, and A = 2^30
abbrev pub steps : Float
steps = of_bits binary64 0x40b0_0000_0000_0000

abbrev pub scale : Float
scale = of_bits binary64 0x41d0_0000_0000_0000

-- the whole part of a number that is not negative
abbrev pub whole_part : Float → ℕ
whole_part x = num x / den x

-- a whole number as a float
abbrev pub float : ℤ → Float
float z = of_int binary64 z

-- -n if negative, else n
abbrev pub signed_of : Bool → ℕ → ℤ
signed_of negative n = cond negative (neg_ℤ (pos n)) (pos n)

-- 01's a and b, in a quadrant at j
unfoldable pub start_of : List ℕ → ℕ → ℕ → ℤ
start_of T zero j = pos (get_or T j 0)
start_of T (suc zero) j = pos (get_or T (1024 - j) 0)
start_of T (suc (suc q)) j = neg_ℤ (start_of T q j)

unfoldable pub end_of : List ℕ → ℕ → ℕ → ℤ
end_of T zero j = pos (get_or T (j + 1) 0)
end_of T (suc zero) j = pos (get_or T (1023 - j) 0)
end_of T (suc (suc q)) j = neg_ℤ (end_of T q j)

-- (a + (b - a)*f)/2^30
abbrev pub line_of : Float → Float → Float → Float
line_of a b f = (a ⊕ (b ⊖ a) ⊗ f) ⊘ scale

-- between point i of the wave and the next, at the fraction f
abbrev pub between_of : List ℕ → ℕ → Float → Float
between_of T i f = line_of (float (start_of T (i / 1024) (i % 1024))) (float (end_of T (i / 1024) (i % 1024))) f

-- the reading at p points from the start of the wave, which has 4,096
unfoldable pub point_of : List ℕ → Float → Float
point_of T p = let i = whole_part p in cond (eqb i 4096) (between_of T 0 zero64) (between_of T i (p ⊖ float (pos i)))

-- the reading of T at u; +0 outside 0 to 1
unfoldable pub reading_in : List ℕ → Float → Float
reading_in T u = cond (within zero64 one u) (point_of T (u ⊗ steps)) zero64

-- ---- the sine
abbrev pub reading_of : Float → Float
reading_of u = reading_in quarter u

abbrev pub sine_of : Float → Result Float Refusal
sine_of u = value_or (unless (within zero64 one u) Argument) (reading_of u)
