-- A fraction rounded up (`roof`) or down to a whole number: natural numbers alone. Assumes nothing.
use mathlib.Core.Path.{◌≡◌, sym}
use mathlib.Core.Bool.{Bool, true, false}
use Prim.Native.Nat.{ℕ, suc, ◌+◌, ◌-◌, ◌*◌, ◌≤◌, ◌<◌}
use native.Mathlib.Nat as nat
use native.Mathlib.Omega.{arith}
use lib.Ieee.Nearest.{div_same}
use Rattle.floats.specs.Floor.{roof, whole_of}

-- roof a c ≤ q where a ≤ q * c
pub roof-le : (a c q : ℕ) → 0 < c → a ≤ q * c → roof a c ≤ q
roof-le a c q C h = nat.le_of_suc-le-suc ((nat.div-lt_iff_lt-mul C).1 (room a c q C h))
  where
    room : (a c q : ℕ) → 0 < c → a ≤ q * c → a + (c - 1) < suc q * c
    room a c q C h = omega arith

-- roof a c * c is at least a, and less than a + c
pub le-roof : (a c : ℕ) → 0 < c → a ≤ roof a c * c
le-roof a c C = last a c (roof a c * c) C (nat.lt-div-mul-add {a = a + (c - 1)} C)
  where
    last : (a c r : ℕ) → 0 < c → a + (c - 1) < r + c → a ≤ r
    last a c r C h = omega arith

pub roof-lt : (a c : ℕ) → 0 < c → roof a c * c < a + c
roof-lt a c C = last a c (roof a c * c) C (nat.div-mul-le_self (a + (c - 1)) c)
  where
    last : (a c r : ℕ) → 0 < c → r ≤ a + (c - 1) → r < a + c
    last a c r C h = omega arith

-- a larger fraction has a larger roof
roof-mono : (a b c d : ℕ) → 0 < b → 0 < d → a * d ≤ c * b → roof a b ≤ roof c d
roof-mono a b c d B D h = roof-le a b (roof c d) B (nat.le_of_mul-le-mul_right (nat.le_trans h (nat.le_trans (nat.mul-le-mul_right b (le-roof c d D)) (nat.le_of_eq (nat.mul_right_comm (roof c d) d b)))) D)

-- equal fractions have equal whole parts
pub whole_same : (s : Bool) (a b c d : ℕ) → 0 < b → 0 < d → a * d ≡ c * b → whole_of s a b ≡ whole_of s c d
whole_same false a b c d B D e = div_same a b c d B D e
whole_same true a b c d B D e = nat.le_antisymm (roof-mono a b c d B D (nat.le_of_eq e)) (roof-mono c d a b D B (nat.le_of_eq (sym e)))

-- a whole number is its own whole part
pub whole-whole : (s : Bool) (w c : ℕ) → 0 < c → whole_of s (w * c) c ≡ w
whole-whole false w c C = nat.mul-div_cancel w C
whole-whole true w c C = nat.le_antisymm (roof-le (w * c) c w C (nat.le_refl (w * c))) (nat.le_of_mul-le-mul_right (le-roof (w * c) c C) C)

-- a whole part is at most the fraction's numerator
pub whole_le : (s : Bool) (a c : ℕ) → 0 < c → whole_of s a c ≤ a
whole_le false a c C = nat.div-le_self a c
whole_le true a c C = roof-le a c a C (nat.le-mul_of_pos_right a C)

-- 0 < a / c < 1: the roof is 1
pub roof-one : (a c : ℕ) → 0 < a → a < c → roof a c ≡ 1
roof-one a c A h = nat.div-eq_of_lt-le c (low a c A) (high a c A h)
  where
    low : (a c : ℕ) → 0 < a → 1 * c ≤ a + (c - 1)
    low a c A = omega arith

    high : (a c : ℕ) → 0 < a → a < c → a + (c - 1) < (1 + 1) * c
    high a c A h = omega arith
