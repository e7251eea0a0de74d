-- The code's literals 0.0 and 1.0 are +0 and 1, at either width. Assumes nothing.
use mathlib.Core.Path.{◌≡◌, refl}
use lib.Ieee.{Format, of_bits}
use Rattle.floats.specs.Range.{plus_zero, plus_one, zero_of, one_of}

pub zero_of-is : (f : Format) → zero_of f ≡ plus_zero
unfolding of_bits
zero_of-is Format.binary32 = refl
zero_of-is Format.binary64 = refl

pub one_of-is : (f : Format) → one_of f ≡ plus_one
unfolding of_bits
one_of-is Format.binary32 = refl
one_of-is Format.binary64 = refl
