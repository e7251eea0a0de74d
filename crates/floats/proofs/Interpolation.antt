-- a + (b - a) * t for t in [0, 1], each operation rounded, where b - a is exact, lies between any two values of the
-- format that a and b lie between: it lies between a + 0 and a + (b - a), which are a and b rounded. Assumes nothing.
use mathlib.Core.Path.{◌≡◌, refl, sym, ap, subst}
use Prim.Native.Nat.{ℕ, ◌+◌, ◌*◌}
use native.Mathlib.Nat.{mul-le-mul_right, le_of_mul-le-mul_right}
use native.Mathlib.Omega.{arith}
use mathlib.Core.Bool.{Bool, true, false, not}
use lib.Dec.{T}
use lib.Ieee.{Float, Format, add, sub, mul, le, fits}
use lib.Ieee.Fits.{and_i, and_l, and_r, sub-fits}
use lib.Ieee.Scale.{finite}
use lib.Ieee.Positive.{den, den_pos}
use Rattle.floats.specs.Range.{plus_zero, plus_one, nonneg, within}
use Rattle.floats.proofs.Operations.{dens_pos}
use Rattle.floats.proofs.Order.{fle_trans, fle_refl, not-le-le}
pub use Rattle.floats.proofs.Order.{between-finite}
use Rattle.floats.proofs.Near.{plus, less, order, near-self, near_add, le→frac, add-order, products}
use Rattle.floats.proofs.Scale.{scale-up_in, scale-down_in}

-- d is exactly b - a, as fractions
abbrev pub Exact : Float → Float → Float → Type 0
Exact d b a = plus d * (den b * den a) + (less b * den a + plus a * den b) * den d ≡ less d * (den b * den a) + (plus b * den a + less a * den b) * den d

-- ---- d is exactly b - a: the sum a + d is b rounded, and has the bounds of the format that b has
module _ (f : Format) (a d b w : Float) (fa : T (finite a)) (fd : T (finite d)) (fb : T (finite b)) (ww : T (fits f w)) (fw : T (finite w)) (x : Exact d b a) where
  sum-le : T (le b w) → T (le (add f a d) w)
  sum-le k =
      order f _ _ _ _ _ _ _ _ (near_add f a d fa fd) (near-self f w ww fw) (dens_pos a d) (den_pos w)
      (le_of_mul-le-mul_right
      (simp products (omega (arith, simp products at (ap (λ (z : ℕ). z * den w) x), simp products at (mul-le-mul_right (den a * den d) (le→frac b w fb fw k)))))
      (den_pos b))

  le-sum : T (le w b) → T (le w (add f a d))
  le-sum k =
      order f _ _ _ _ _ _ _ _ (near-self f w ww fw) (near_add f a d fa fd) (den_pos w) (dens_pos a d)
      (le_of_mul-le-mul_right
      (simp products (omega (arith, simp products at (ap (λ (z : ℕ). z * den w) x), simp products at (mul-le-mul_right (den a * den d) (le→frac w b fw fb k)))))
      (den_pos b))

-- lo ≤ a ≤ hi and lo ≤ b ≤ hi, with lo and hi of the format, and t in [0, 1]: lo ≤ a + (b - a) * t ≤ hi
pub lerp_in : (f : Format) (a b t lo hi : Float) → T (finite a) → T (finite b) → T (finite (sub f b a)) → Exact (sub f b a) b a → T (nonneg t) → T (le t plus_one)
    → T (fits f lo) → T (finite lo) → T (fits f hi) → T (finite hi) → T (within lo hi a) → T (within lo hi b) → T (within lo hi (add f a (mul f (sub f b a) t)))
lerp_in f a b t lo hi fa fb fd x nt t1 wl fl wh fh ha hb = go (le plus_zero d) refl
  where
    d : Float
    d = sub f b a

    s : Float
    s = mul f d t

    -- e is exactly z - a: a + e has the bounds of z. So a + 0 has those of a, and a + d those of b
    sum_in : (e z : Float) → T (finite e) → T (finite z) → Exact e z a → T (within lo hi z) → T (within lo hi (add f a e))
    sum_in e z fe fz y h =
        and_i (le lo (add f a e)) (le (add f a e) hi)
        (le-sum f a e z lo fa fe fz wl fl y (and_l (le lo z) (le z hi) h))
        (sum-le f a e z hi fa fe fz wh fh y (and_r (le lo z) (le z hi) h))

    start : T (within lo hi (add f a plus_zero))
    start = sum_in plus_zero a tt fa (omega arith) ha

    end : T (within lo hi (add f a d))
    end = sum_in d b fd fb x hb

    -- s lies between u and v, and a + u and a + v have the bounds: a + s has the bounds
    between : (u v : Float) → T (finite u) → T (finite v) → T (within lo hi (add f a u)) → T (within lo hi (add f a v)) → T (within u v s) → T (within lo hi (add f a s))
    between u v fu fv hu hv h =
        let l : T (le u s) = and_l (le u s) (le s v) h in
        let r : T (le s v) = and_r (le u s) (le s v) h in
        let fs : T (finite s) = between-finite u s v fu fv l r in
        and_i (le lo (add f a s)) (le (add f a s) hi)
        (fle_trans lo (add f a u) (add f a s) (and_l (le lo (add f a u)) (le (add f a u) hi) hu) (add-order f a a u s fa fa fu fs (fle_refl a fa) l))
        (fle_trans (add f a s) (add f a v) hi (add-order f a a s v fa fa fs fv (fle_refl a fa) r) (and_r (le lo (add f a v)) (le (add f a v) hi) hv))

    -- s lies between 0 and d, whichever is greater
    go : (c : Bool) → le plus_zero d ≡ c → T (within lo hi (add f a s))
    go true c = between plus_zero d tt fd start end (scale-up_in f d t (sub-fits f b a) fd nt t1 (subst T (sym c) tt))
    go false c =
        between d plus_zero fd tt end start
        (scale-down_in f d t (sub-fits f b a) fd nt t1 (not-le-le plus_zero d tt fd (subst (λ (z : Bool). T (not z)) (sym c) tt)))
