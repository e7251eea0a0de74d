-- Worked examples, computed on the definitions. Assumes nothing.
use mathlib.Core.Path.{◌≡◌, refl}
use mathlib.Core.Bool.{true, false}
use mathlib.Core.List.{[], ◌∷◌}
use lib.Ieee.{Float, nan, inf, binary64, of_bits, neg, lt, eq}
use Rattle.floats.specs.Double.{zero64, half, one, two}
use Rattle.peaks.specs.Peaks.{stands, peak_to, peak_of}

-- 0.9
abbrev nine_tenths : Float
nine_tenths = of_bits binary64 0x3fec_cccc_cccc_cccd

-- no sample: +0 at 0
pub of_none : peak_of [] ≡ stands zero64 0
unfolding peak_to
of_none = refl

-- silence of either sign: +0 at 0
pub of_minus_zeros : peak_of (neg zero64 ∷ neg zero64 ∷ neg zero64 ∷ []) ≡ stands zero64 0
unfolding peak_to of_bits neg lt eq
of_minus_zeros = refl

-- 0.5 and -0.5: of equal magnitudes the first
pub of_equals : peak_of (half ∷ neg half ∷ []) ≡ stands half 0
unfolding peak_to of_bits neg lt eq
of_equals = refl

-- 0.5, 2 and -1: what is above 1 counts as it is
pub of_two : peak_of (half ∷ two ∷ neg one ∷ []) ≡ stands two 1
unfolding peak_to of_bits neg lt eq
of_two = refl

-- -0.9 and 0.5: the magnitude has no sign
pub of_negative : peak_of (neg nine_tenths ∷ half ∷ []) ≡ stands nine_tenths 0
unfolding peak_to of_bits neg lt eq
of_negative = refl

-- 0, 0.5, -1, 0.9 and 1: the largest stands at 2 first
pub of_five : peak_of (zero64 ∷ half ∷ neg one ∷ nine_tenths ∷ one ∷ []) ≡ stands one 2
unfolding peak_to of_bits neg lt eq
of_five = refl

-- a NaN is passed over, first or later, and an infinity is not
pub of_nan : peak_of (nan ∷ half ∷ nan ∷ []) ≡ stands half 1
unfolding peak_to of_bits neg lt eq
of_nan = refl

pub of_infinity : peak_of (half ∷ inf true ∷ nan ∷ []) ≡ stands (inf false) 1
unfolding peak_to of_bits neg lt eq
of_infinity = refl
