-- 0, 1 and the largest value of a format, tests of a sign, and intervals, for contracts and laws. Definitions only.
use Rattle.std.specs.Prelude.{suc, ◌-◌, ◌^◌, Bool, true, false, not, ◌&&◌, pos, eqb, Float}
use Rattle.std.specs.Float.{nan, inf, fin, Format, binary32, binary64}
use Rattle.std.specs.Float.Ieee.{prec, emax, le, of_bits}

-- +0
abbrev pub plus_zero : Float
plus_zero = fin false 0 (pos 0)

-- 1
abbrev pub plus_one : Float
plus_one = fin false 1 (pos 0)

-- the largest finite value of f: every digit set, the exponent greatest (bits 0x7f7fffff and 0x7fefffffffffffff)
abbrev pub largest : Format → Float
largest f = fin false (2 ^ prec f - 1) (pos (suc (emax f) - prec f))

-- 0 ≤ x, +infinity and -0 included; it is the test `le plus_zero x` (`ge0→le` and `le→ge0` of proofs/Order.antt)
abbrev pub ge0 : Float → Bool
ge0 nan = false
ge0 (inf s) = not s
ge0 (fin true m e) = eqb m 0
ge0 (fin false m e) = true

-- 0 ≤ x, and x is finite
abbrev pub nonneg : Float → Bool
nonneg nan = false
nonneg (inf s) = false
nonneg (fin true m e) = eqb m 0
nonneg (fin false m e) = true

-- lo ≤ x ≤ hi
abbrev pub within : Float → Float → Float → Bool
within lo hi x = le lo x && le x hi

-- the literals 0.0 and 1.0 in code of either width; they are `plus_zero` and `plus_one` (proofs/Literals.antt)
abbrev pub zero_of : Format → Float
zero_of f = of_bits f 0

abbrev pub one_of : Format → Float
one_of binary32 = of_bits binary32 0x3f80_0000
one_of binary64 = of_bits binary64 0x3ff0_0000_0000_0000
