-- The rounded triangle beside `poly_blamp`, and by worked examples, computed on the definitions. Assumes nothing.
use mathlib.Core.Path.{◌≡◌, refl}
use mathlib.Core.List.{[], ◌∷◌, map}
use lib.Ieee.{Float, binary64, of_bits, neg, add, sub, mul, div, lt, le}
use Rattle.floats.specs.Double.{◌⊕◌, ◌⊗◌, zero64, half, one, four}
use Rattle.floats.specs.Floor.{floor_of}
use Rattle.polyblep.specs.Polyblep.{third, knee_after, knee_before, rounded_after, rounded_before, rounded_blamp_of, rounded_of}

-- 02, R-11: "both branches plus one third before the multiplication by dt"
pub after-plus-third : (dt x : Float) → rounded_after dt x ≡ (knee_after x ⊕ third) ⊗ dt
after-plus-third dt x = refl

pub before-plus-third : (dt x : Float) → rounded_before dt x ≡ (knee_before x ⊕ third) ⊗ dt
before-plus-third dt x = refl

-- ---- dt is 3/16: half a sample is 3/32
abbrev dt : Float
dt = of_bits binary64 0x3fc8_0000_0000_0000

abbrev after : Float
after = of_bits binary64 0x3fb8_0000_0000_0000

abbrev before : Float
before = of_bits binary64 0x3fed_0000_0000_0000

-- the correction at the corner is 1/16; half a sample away on either side it is two floats above 1/128
pub corrections : map (λ (t : Float). rounded_blamp_of t dt) (zero64 ∷ after ∷ before ∷ []) ≡ of_bits binary64 0x3fb0_0000_0000_0000 ∷ of_bits binary64 0x3f80_0000_0000_0002 ∷ of_bits binary64 0x3f80_0000_0000_0002 ∷ []
unfolding rounded_blamp_of of_bits neg add sub mul div lt le
corrections = refl

-- -0.75 at the lower corner and 0.75 at the upper; half a sample away from them -0.59375 and 0.59375
pub values : map (λ (u : Float). rounded_of u dt) (zero64 ∷ after ∷ before ∷ half ∷ of_bits binary64 0x3fda_0000_0000_0000 ∷ of_bits binary64 0x3fe3_0000_0000_0000 ∷ [])
    ≡ of_bits binary64 0xbfe8_0000_0000_0000 ∷ of_bits binary64 0xbfe3_0000_0000_0000 ∷ of_bits binary64 0xbfe3_0000_0000_0000 ∷ of_bits binary64 0x3fe8_0000_0000_0000 ∷ of_bits binary64 0x3fe3_0000_0000_0000 ∷ of_bits binary64 0x3fe3_0000_0000_0000 ∷ []
unfolding rounded_of rounded_blamp_of floor_of of_bits neg add sub mul div lt le
values = refl

-- nothing clamps: -2.3229166666666665 at phase 1 and dt 4
pub beyond-one : rounded_of one four ≡ of_bits binary64 0xc002_9555_5555_5555
unfolding rounded_of rounded_blamp_of floor_of of_bits neg add sub mul div lt le
beyond-one = refl
