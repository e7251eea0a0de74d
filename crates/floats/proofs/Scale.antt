-- x * t for t in [0, 1] lies between 0 and x, for either sign of x: `less x` or `plus x` is 0, and the rest is `order`
-- of `Near.antt`. Assumes nothing.
use mathlib.Core.Path.{◌≡◌, refl}
use Prim.Native.Nat.{◌*◌, ◌≤◌}
use native.Mathlib.Nat.{mul-le-mul_right}
use native.Mathlib.Omega.{arith}
use mathlib.Core.Bool.{true, false}
use lib.Dec.{T}
use lib.Ieee.{Float, nan, inf, fin, Format, mul, le, fits}
use lib.Ieee.Fits.{and_i}
use lib.Ieee.Scale.{finite}
use lib.Ieee.Positive.{den, den_pos}
use Rattle.floats.specs.Range.{plus_zero, plus_one, nonneg, within}
use Rattle.floats.proofs.Operations.{dens_pos}
use Rattle.floats.proofs.Order.{le→Le, ge0→le, nonneg→ge0, nonneg→finite}
use Rattle.floats.proofs.Signed.{below-zero}
use Rattle.floats.proofs.Near.{plus, less, order, near-self, near_mul, le→frac}

-- 0 ≤ x: `less x` is 0
no_less : (x : Float) → T (le plus_zero x) → less x ≡ 0
no_less nan h = refl
no_less (inf s) h = refl
no_less (fin true m e) h = omega (arith, (le→Le plus_zero (fin true m e) h).1)
no_less (fin false m e) h = refl

-- x ≤ 0: `plus x` is 0
no_plus : (x : Float) → T (le x plus_zero) → plus x ≡ 0
no_plus nan h = refl
no_plus (inf s) h = refl
no_plus (fin true m e) h = refl
no_plus (fin false m e) h = omega (arith, le→Le (fin false m e) plus_zero h)

module _ (f : Format) (x t : Float) (w : T (fits f x)) (p : T (finite x)) (q : T (nonneg t)) (h : T (le t plus_one)) where
  -- t is a fraction from 0 to 1
  finite_t : T (finite t)
  finite_t = nonneg→finite t q

  no_less_t : less t ≡ 0
  no_less_t = no_less t (ge0→le t (nonneg→ge0 t q))

  plus_t : plus t ≤ den t
  plus_t = omega (arith, le→frac t plus_one finite_t tt h, no_less_t)

  -- 0 ≤ x: x * t is in [0, x]
  pub scale-up_in : T (le plus_zero x) → T (within plus_zero x (mul f x t))
  scale-up_in k =
      let r = near_mul f x t p finite_t in
      and_i (le plus_zero (mul f x t)) (le (mul f x t) x)
      (ge0→le (mul f x t) (r.above (rw (no_less x k, no_less_t) (omega arith))).sign)
      (order f _ _ _ _ _ _ _ _ r (near-self f x w p) (dens_pos x t) (den_pos x)
      (rw (no_less x k, no_less_t) (omega (arith, mul-le-mul_right (plus x * den x) plus_t))))

  -- x ≤ 0: x * t is in [x, 0]
  pub scale-down_in : T (le x plus_zero) → T (within x plus_zero (mul f x t))
  scale-down_in k =
      let r = near_mul f x t p finite_t in
      and_i (le x (mul f x t)) (le (mul f x t) plus_zero)
      (order f _ _ _ _ _ _ _ _ (near-self f x w p) r (den_pos x) (dens_pos x t)
      (rw (no_plus x k, no_less_t) (omega (arith, mul-le-mul_right (less x * den x) plus_t))))
      (below-zero (mul f x t) (r.under (rw (no_plus x k, no_less_t) (omega arith))).sign)
