-- The floor of a float. 01: "wrap(x) = x - floor(x), in f32, where floor(-0) is -0"; "`floor` is worked out from the
-- bits".
--
-- The floor of a finite x is the greatest whole number not above x, with the sign of x, so floor(-0) is -0. An infinity
-- or a NaN is its own floor. `floor_of` computes the floor from the fraction that x is; proofs/Greatest.antt proves
-- that `floor_of` meets `IsFloor`, that no other float does, and that a whole number is its own floor. Definitions
-- only.
use Rattle.std.specs.Prelude.{Bool, true, false, ◌≡◌, ℕ, ◌+◌, ◌-◌, ◌*◌, ◌/◌, ◌%◌, T, Float}
use Rattle.std.specs.Float.{nan, inf, fin, Format}
use Rattle.std.specs.Float.Ieee.{up, down, round, le}

-- a / c rounded up to a whole number
abbrev pub roof : ℕ → ℕ → ℕ
roof a c = (a + (c - 1)) / c

-- the size of the floor of a / c, and of -a / c (true), whose floor lies farther from 0
abbrev pub whole_of : Bool → ℕ → ℕ → ℕ
whole_of false a c = a / c
whole_of true a c = roof a c

unfoldable pub floor_of : Format → Float → Float
floor_of f nan = nan
floor_of f (inf s) = inf s
floor_of f (fin s m e) = round f s (whole_of s (m * up e) (down e)) 1

-- x is finite and has no fraction
abbrev pub Whole : Float → Type 0
Whole nan = ⊥
Whole (inf s) = ⊥
Whole (fin s m e) = m * up e % down e ≡ 0

-- true where x is below 0, and for -0
abbrev pub sign_of : Float → Bool
sign_of nan = false
sign_of (inf s) = s
sign_of (fin s m e) = s

-- r is the greatest whole number not above x, and has the sign of x
pub record IsFloor (x r : Float) : Type 0 where
  pub whole : Whole r
  pub below : T (le r x)
  pub greatest : (w : Float) → Whole w → T (le w x) → T (le w r)
  pub sign : sign_of r ≡ sign_of x
