-- Readings by the definition. At 0, -0, 1/4, 1/2, 3/4 and 1 cycles: 0, 0, 1, 0, -1 and 0, each zero a +0. At 1/8 and
-- 5/8: T[512] / 2^30 and its negative. At half a point, 1/8192: T[1] / 2^31. Assumes nothing.
use mathlib.Core.Path.{◌≡◌, refl}
use mathlib.Core.List.{List, [], ◌∷◌, map}
use Prim.Native.Nat.{ℕ}
use lib.Ieee.{binary64, of_bits, of_int, round, add, sub, mul, div, neg, lt, eq, le}
use Rattle.sine.specs.Table.{quarter}
use Rattle.sine.specs.Sine.{start_of, end_of, point_of, reading_in, reading_of}

abbrev pub marked : List ℕ
marked =
    0 ∷ 0x8000_0000_0000_0000 ∷ 0x3fd0_0000_0000_0000 ∷ 0x3fe0_0000_0000_0000 ∷ 0x3fe8_0000_0000_0000 ∷ 0x3ff0_0000_0000_0000 ∷ 0x3fc0_0000_0000_0000 ∷ 0x3fe4_0000_0000_0000 ∷ 0x3f20_0000_0000_0000 ∷ []

abbrev pub answers : List ℕ
answers =
    0 ∷ 0 ∷ 0x3ff0_0000_0000_0000 ∷ 0 ∷ 0xbff0_0000_0000_0000 ∷ 0 ∷ 0x3fe6_a09e_6680_0000 ∷ 0xbfe6_a09e_6680_0000 ∷ 0x3f49_21fb_0000_0000 ∷ []

pub examples : map (λ (u : ℕ). reading_of (of_bits binary64 u)) marked ≡ map (of_bits binary64) answers
unfolding quarter start_of end_of point_of reading_in of_bits of_int round add sub mul div neg lt eq le
examples = refl
