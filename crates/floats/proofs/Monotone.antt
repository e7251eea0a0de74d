-- Each operation rises or falls with each argument, on values that are finite and not negative (`nonneg`). Sums and
-- differences are instances of the laws for either sign; a product or a quotient is `mono` of `Rounds.antt` at an
-- inequality of fractions. Assumes nothing.
use native.Mathlib.Nat.{mul-le-mul}
use native.Mathlib.Omega.{arith}
use lib.Dec.{T}
use lib.Ieee.{Float, Format, add, sub, mul, div, le}
use lib.Ieee.Positive.{positive}
use Rattle.floats.specs.Range.{nonneg}
use Rattle.floats.proofs.Operations.{dens_pos, quot_pos}
use Rattle.floats.proofs.Order.{le→cross, nonneg→finite, positive-nonneg}
use Rattle.floats.proofs.Rounds.{mono, mul_rounds, div_rounds}
use Rattle.floats.proofs.Near.{add-order, sub_order}

module _ (f : Format) where
  -- x + y ≤ x' + y' for x ≤ x' and y ≤ y'
  pub add-mono : (x x' y y' : Float) → T (nonneg x) → T (nonneg x') → T (nonneg y) → T (nonneg y') → T (le x x') → T (le y y') → T (le (add f x y) (add f x' y'))
  add-mono x x' y y' p p' q q' h k = add-order f x x' y y' (nonneg→finite x p) (nonneg→finite x' p') (nonneg→finite y q) (nonneg→finite y' q') h k

  -- x - y ≤ x' - y' for x ≤ x' and y' ≤ y (y ≤ x is asked too, and not needed)
  pub sub-mono : (x x' y y' : Float) → T (nonneg x) → T (nonneg x') → T (nonneg y) → T (nonneg y') → T (le x x') → T (le y' y) → T (le y x) → T (le (sub f x y) (sub f x' y'))
  sub-mono x x' y y' p p' q q' h k l = sub_order f x x' y y' (nonneg→finite x p) (nonneg→finite x' p') (nonneg→finite y q) (nonneg→finite y' q') h k

  -- x * y ≤ x' * y' for x ≤ x' and y ≤ y'
  pub mul_mono : (x x' y y' : Float) → T (nonneg x) → T (nonneg x') → T (nonneg y) → T (nonneg y') → T (le x x') → T (le y y') → T (le (mul f x y) (mul f x' y'))
  mul_mono x x' y y' p p' q q' h k =
      mono f _ _ _ _ _ _ (mul_rounds f x y p q) (mul_rounds f x' y' p' q') (dens_pos x y) (dens_pos x' y')
      (omega (arith, mul-le-mul (le→cross x x' p p' h) (le→cross y y' q q' k)))

  -- x / y ≤ x' / y' for x ≤ x' and y' ≤ y
  pub div_mono : (x x' y y' : Float) → T (nonneg x) → T (nonneg x') → T (positive y) → T (positive y') → T (le x x') → T (le y' y) → T (le (div f x y) (div f x' y'))
  div_mono x x' y y' p p' q q' h k =
      mono f _ _ _ _ _ _ (div_rounds f x y p q) (div_rounds f x' y' p' q') (quot_pos x y q) (quot_pos x' y' q')
      (omega (arith, mul-le-mul (le→cross x x' p p' h) (le→cross y' y (positive-nonneg y' q') (positive-nonneg y q) k)))
