-- Sizes: |x| ≤ a, carried through each operation. So a long expression is finite if the same expression at the bounds
-- is finite, which is computed. For either format. Assumes nothing.
use Prim.Native.Nat.{◌+◌, ◌*◌}
use native.Mathlib.Nat.{le_refl, mul-pos, mul-le-mul_right}
use native.Mathlib.Omega.{arith}
use lib.Dec.{T}
use lib.Ieee.{Float, Format, neg, add, sub, mul, div, le}
use lib.Ieee.Fits.{and_i, and_l, and_r}
use lib.Ieee.Scale.{finite}
use lib.Ieee.Positive.{num, den, den_pos, positive}
use Rattle.floats.specs.Range.{plus_zero, plus_one, nonneg, within}
use Rattle.floats.proofs.Order.{between-finite, fle_trans, fle_refl, positive-nonneg, nonneg→finite, nonneg→ge0, ge0→le}
use Rattle.floats.proofs.Operations.{quot_pos}
use Rattle.floats.proofs.Ranges.{div_in}
use Rattle.floats.proofs.Signed.{finite-neg}
use Rattle.floats.proofs.Near.{Near, plus, less, order, near-neg, near_add, near_div}
use Rattle.floats.proofs.Near.{neg-parts, neg-order, add-order, div_order, mul_bound, within-neg, le→frac}

-- |x| ≤ a, and a is finite
pub record Size (a x : Float) : Type 0 where
  pub bound : T (finite a)
  pub between : T (within (neg a) a x)

module _ (a x : Float) (s : Size a x) where
  low : T (le (neg a) x)
  low = and_l (le (neg a) x) (le x a) s.between

  high : T (le x a)
  high = and_r (le (neg a) x) (le x a) s.between

  -- |x| ≤ a: x is finite
  pub size-finite : T (finite x)
  size-finite = between-finite (neg a) x a (finite-neg a s.bound) s.bound low high

  -- |-x| ≤ a
  pub size-neg : Size a (neg x)
  size-neg = record { bound = s.bound; between = within-neg a x s.between }

-- -(a + b) ≤ -a + -b: the two are one number, but a zero may have the other sign
neg-sum-le : (f : Format) (a b : Float) → T (finite a) → T (finite b) → T (le (neg (add f a b)) (add f (neg a) (neg b)))
neg-sum-le f a b p q =
    let n = less a * den b + less b * den a in
    let m = plus a * den b + plus b * den a in
    let c = den a * den b in
    order f (neg (add f a b)) (add f (neg a) (neg b)) n m c n m c (near-neg f (add f a b) m n c (near_add f a b p q)) (turned f a b p q) (mul-pos (den_pos a) (den_pos b)) (mul-pos (den_pos a) (den_pos b)) (le_refl (n * c + m * c))
  where
    turned : (f : Format) (a b : Float) → T (finite a) → T (finite b) → Near f (add f (neg a) (neg b)) (less a * den b + less b * den a) (plus a * den b + plus b * den a) (den a * den b)
    turned f a b p q =
        simp ((neg-parts a).0, (neg-parts a).1, (neg-parts a).2, (neg-parts b).0, (neg-parts b).1, (neg-parts b).2) at (near_add f (neg a) (neg b) (finite-neg a p) (finite-neg b q))

module _ (f : Format) (a x b y : Float) (s : Size a x) (t : Size b y) where
  -- |x + y| ≤ a + b, |x - y| ≤ a + b and |x * y| ≤ a * b, where the rounded bound is finite
  pub size-add : T (finite (add f a b)) → Size (add f a b) (add f x y)
  size-add h =
      let A = s.bound in
      let B = t.bound in
      record {
        bound = h;
        between =
            and_i (le (neg (add f a b)) (add f x y)) (le (add f x y) (add f a b))
            (fle_trans (neg (add f a b)) (add f (neg a) (neg b)) (add f x y) (neg-sum-le f a b A B) (add-order f (neg a) x (neg b) y (finite-neg a A) (size-finite a x s) (finite-neg b B) (size-finite b y t) (low a x s) (low b y t)))
            (add-order f x a y b (size-finite a x s) A (size-finite b y t) B (high a x s) (high b y t));
      }

  pub size-mul : T (finite (mul f a b)) → Size (mul f a b) (mul f x y)
  size-mul h = record { bound = h; between = mul_bound f x a y b (size-finite a x s) s.bound (size-finite b y t) t.bound s.between t.between }

pub size-sub : (f : Format) (a x b y : Float) → Size a x → Size b y → T (finite (add f a b)) → Size (add f a b) (sub f x y)
unfolding sub
size-sub f a x b y s t h = size-add f a x b (neg y) s (size-neg b y t) h

-- |x| ≤ a ≤ b: |x| ≤ b
pub size_widen : (a b x : Float) → T (finite b) → T (le a b) → Size a x → Size b x
size_widen a b x h k s =
    record {
      bound = h;
      between = and_i (le (neg b) x) (le x b) (fle_trans (neg b) (neg a) x (neg-order a b k) (low a x s)) (fle_trans x a b (high a x s) k);
    }

-- 0 ≤ x ≤ a: |x| ≤ a
pub size_of_range : (a x : Float) → T (finite a) → T (within plus_zero a x) → Size a x
size_of_range a x h p =
    let l : T (le plus_zero x) = and_l (le plus_zero x) (le x a) p in
    let r : T (le x a) = and_r (le plus_zero x) (le x a) p in
    record { bound = h; between = and_i (le (neg a) x) (le x a) (fle_trans (neg a) plus_zero x (minus-le a (fle_trans plus_zero x a l r)) l) r }
  where
    -- -a ≤ 0 for 0 ≤ a
    minus-le : (a : Float) → T (le plus_zero a) → T (le (neg a) plus_zero)
    minus-le a k = fle_trans (neg a) (neg plus_zero) plus_zero (neg-order plus_zero a k) (unfold neg in unfold le in tt)

-- |x| ≤ a and 0 < y: |x / y| ≤ a / y, where the rounded bound is finite
pub size-over : (f : Format) (a x y : Float) → T (positive y) → Size a x → T (finite (div f a y)) → Size (div f a y) (div f x y)
size-over f a x y q s h =
    let A = s.bound in
    let X = size-finite a x s in
    record {
      bound = h;
      between =
          and_i (le (neg (div f a y)) (div f x y)) (le (div f x y) (div f a y))
          (order f _ _ _ _ _ _ _ _ (near-neg f (div f a y) _ _ _ (near_div f a y A q)) (near_div f x y X q) (quot_pos a y q) (quot_pos x y q)
          (omega (arith, mul-le-mul_right (den y * num y) (simp ((neg-parts a).0, (neg-parts a).1, (neg-parts a).2) at (le→frac (neg a) x (finite-neg a A) X (low a x s))))))
          (div_order f x a y X A q (high a x s));
    }

-- |d| ≤ y and 0 < y: |d / y| ≤ 1
pub size-div : (f : Format) (d y : Float) → T (positive y) → Size y d → Size plus_one (div f d y)
size-div f d y q s =
    let own = div f y y in
    let r = div_in f y y (positive-nonneg y q) q (fle_refl y s.bound) in
    let l : T (le own plus_one) = and_r (le plus_zero own) (le own plus_one) r in
    size_widen own plus_one (div f d y) tt l (size-over f y d y q s (between-finite plus_zero own plus_one tt tt (and_l (le plus_zero own) (le own plus_one) r) l))

-- 0 ≤ x: |x| ≤ x
pub size_own : (x : Float) → T (nonneg x) → Size x x
size_own x p = size_of_range x x (nonneg→finite x p) (and_i (le plus_zero x) (le x x) (ge0→le x (nonneg→ge0 x p)) (fle_refl x (nonneg→finite x p)))
