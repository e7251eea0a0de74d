-- Signs of results, and bounds on them, for values that are finite and not negative (`nonneg`): each law is the sign of
-- a rounded fraction, or `mono` of `Rounds.antt` at an inequality of fractions. Assumes nothing.
use Prim.Native.Nat.{◌*◌}
use native.Mathlib.Nat.{le_of_lt, mul-le-mul_right, mod-lt, mod-le}
use native.Mathlib.Omega.{arith}
use mathlib.Core.Bool.{true, false}
use lib.Dec.{T, ltb→lt}
use lib.Ieee.{Float, nan, inf, fin, Format, add, sub}
use lib.Ieee.{mul, div, rem, neg, le, fits}
use lib.Ieee.Fits.{and_i, and_l, and_r}
use lib.Ieee.Scale.{finite}
use lib.Ieee.Positive.{num, den, den_pos, positive, above_of_le}
use Rattle.floats.specs.Range.{plus_zero, plus_one, ge0, nonneg, within}
use Rattle.floats.proofs.Operations.{dens_pos, quot_pos}
use Rattle.floats.proofs.Order.{le→cross, ge0→le, le→ge0, nonneg→ge0, nonneg→finite, under}
pub use Rattle.floats.proofs.Order.{positive-nonneg, positive-num}
use Rattle.floats.proofs.Rounds.{mono, self, add_rounds, sub_rounds, mul_rounds, div_rounds, rem_rounds, one_rounds}
use Rattle.floats.proofs.Signed.{neg-sub_rounds, neg-mul_rounds, below-zero}
use Rattle.floats.proofs.Scale.{scale-up_in}

-- ---- from a range to its values
-- 0 ≤ x ≤ hi with hi finite: x is finite and not negative
pub within-nonneg : (hi x : Float) → T (finite hi) → T (within plus_zero hi x) → T (nonneg x)
within-nonneg hi x p h = under x hi (le→ge0 x (and_l (le plus_zero x) (le x hi) h)) p (and_r (le plus_zero x) (le x hi) h)

-- 0 < lo ≤ x with x finite: x is positive
pub ge0-positive : (lo x : Float) → T (positive lo) → T (le lo x) → T (finite x) → T (positive x)
ge0-positive lo nan p h q = absurd q
ge0-positive lo (inf s) p h q = absurd q
ge0-positive lo (fin true m e) p h q = absurd (above_of_le lo (fin true m e) p h)
ge0-positive lo (fin false m e) p h q = above_of_le lo (fin false m e) p h

module _ (f : Format) where
  -- ---- not negative
  -- 0 ≤ x + y
  pub add-ge0 : (x y : Float) → T (nonneg x) → T (nonneg y) → T (ge0 (add f x y))
  add-ge0 x y p q = (add_rounds f x y p q).sign

  -- 0 ≤ x * y
  pub mul-ge0 : (x y : Float) → T (nonneg x) → T (nonneg y) → T (ge0 (mul f x y))
  mul-ge0 x y p q = (mul_rounds f x y p q).sign

  -- 0 ≤ x / y
  pub div-ge0 : (x y : Float) → T (nonneg x) → T (positive y) → T (ge0 (div f x y))
  div-ge0 x y p q = (div_rounds f x y p q).sign

  -- 0 ≤ x - y for y ≤ x
  pub sub-ge0 : (x y : Float) → T (nonneg x) → T (nonneg y) → T (le y x) → T (ge0 (sub f x y))
  sub-ge0 x y p q h = (sub_rounds f x y p q h).sign

  -- 0 ≤ x % y
  pub rem-ge0 : (x y : Float) → T (nonneg x) → T (positive y) → T (ge0 (rem f x y))
  rem-ge0 x y p q = (rem_rounds f x y p q).sign

  -- ---- not positive
  -- x - y ≤ 0 for x ≤ y
  pub sub_nonpos : (x y : Float) → T (nonneg x) → T (nonneg y) → T (le x y) → T (le (sub f x y) plus_zero)
  sub_nonpos x y p q h = below-zero (sub f x y) (neg-sub_rounds f x y p q h).sign

  -- x * z ≤ 0 for z ≤ 0
  pub mul_nonpos : (x z : Float) → T (nonneg x) → T (nonneg (neg z)) → T (le (mul f x z) plus_zero)
  mul_nonpos x z p q = below-zero (mul f x z) (neg-mul_rounds f x z p q).sign

  -- ---- sums and differences
  -- x ≤ x + y
  pub add_grows : (x y : Float) → T (fits f x) → T (nonneg x) → T (nonneg y) → T (le x (add f x y))
  add_grows x y w p q = mono f _ _ _ _ _ _ (self f x w p) (add_rounds f x y p q) (den_pos x) (dens_pos x y) (omega arith)

  -- x - y ≤ x for y ≤ x
  pub sub-le : (x y : Float) → T (fits f x) → T (nonneg x) → T (nonneg y) → T (le y x) → T (le (sub f x y) x)
  sub-le x y w p q h =
      mono f _ _ _ _ _ _ (sub_rounds f x y p q h) (self f x w p) (dens_pos x y) (den_pos x)
      (omega (arith, mul-le-mul_right (den x) (native.Mathlib.Nat.sub-le (num x * den y) (num y * den x))))

  -- x - y is in [0, x] for y ≤ x
  pub sub_in : (x y : Float) → T (fits f x) → T (nonneg x) → T (nonneg y) → T (le y x) → T (within plus_zero x (sub f x y))
  sub_in x y w p q h = and_i (le plus_zero (sub f x y)) (le (sub f x y) x) (ge0→le (sub f x y) (sub-ge0 x y p q h)) (sub-le x y w p q h)

  -- -(x - y) for x ≤ y is at most y, so it is finite and not negative
  pub neg-sub-nonneg : (x y : Float) → T (fits f y) → T (nonneg x) → T (nonneg y) → T (le x y) → T (nonneg (neg (sub f x y)))
  neg-sub-nonneg x y w p q h =
      let r = neg-sub_rounds f x y p q h in
      under (neg (sub f x y)) y r.sign (nonneg→finite y q)
      (mono f _ _ _ _ _ _ r (self f y w q) (dens_pos x y) (den_pos y)
      (omega (arith, mul-le-mul_right (den y) (native.Mathlib.Nat.sub-le (num y * den x) (num x * den y)))))

  -- ---- products
  -- x * y is in [0, x] for y in [0, 1]
  pub mul_in : (x y : Float) → T (fits f x) → T (nonneg x) → T (nonneg y) → T (le y plus_one) → T (within plus_zero x (mul f x y))
  mul_in x y w p q h = scale-up_in f x y w (nonneg→finite x p) q h (ge0→le x (nonneg→ge0 x p))

  -- x * y ≤ x for y in [0, 1]
  pub mul-le : (x y : Float) → T (fits f x) → T (nonneg x) → T (nonneg y) → T (le y plus_one) → T (le (mul f x y) x)
  mul-le x y w p q h = and_r (le plus_zero (mul f x y)) (le (mul f x y) x) (mul_in x y w p q h)

  -- ---- quotients
  -- x / y ≤ 1 for x ≤ y
  pub div-le-one : (x y : Float) → T (nonneg x) → T (positive y) → T (le x y) → T (le (div f x y) plus_one)
  div-le-one x y p q h =
      mono f _ _ _ _ _ _ (div_rounds f x y p q) (one_rounds f) (quot_pos x y q) (ltb→lt 0 1 tt) (omega (arith, le→cross x y p (positive-nonneg y q) h))

  -- 1 ≤ x / y for y ≤ x
  pub one-le-div : (x y : Float) → T (nonneg x) → T (positive y) → T (le y x) → T (le plus_one (div f x y))
  one-le-div x y p q h =
      mono f _ _ _ _ _ _ (one_rounds f) (div_rounds f x y p q) (ltb→lt 0 1 tt) (quot_pos x y q) (omega (arith, le→cross y x (positive-nonneg y q) p h))

  -- x / y is in [0, 1] for x ≤ y
  pub div_in : (x y : Float) → T (nonneg x) → T (positive y) → T (le x y) → T (within plus_zero plus_one (div f x y))
  div_in x y p q h = and_i (le plus_zero (div f x y)) (le (div f x y) plus_one) (ge0→le (div f x y) (div-ge0 x y p q)) (div-le-one x y p q h)

  -- ---- remainders
  -- x % y ≤ y
  pub rem-le : (x y : Float) → T (fits f y) → T (nonneg x) → T (positive y) → T (le (rem f x y) y)
  rem-le x y w p q =
      mono f _ _ _ _ _ _ (rem_rounds f x y p q) (self f y w (positive-nonneg y q)) (dens_pos x y) (den_pos y)
      (omega (arith, mul-le-mul_right (den y) (le_of_lt (mod-lt (num x * den y) (quot_pos x y q)))))

  -- x % y ≤ x
  pub rem-le-first : (x y : Float) → T (fits f x) → T (nonneg x) → T (positive y) → T (le (rem f x y) x)
  rem-le-first x y w p q =
      mono f _ _ _ _ _ _ (rem_rounds f x y p q) (self f x w p) (dens_pos x y) (den_pos x)
      (omega (arith, mul-le-mul_right (den x) (mod-le (num x * den y) (num y * den x))))
