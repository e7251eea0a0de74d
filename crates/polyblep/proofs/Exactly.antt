-- The rounded corner without rounding: 1/3 of dt at the corner, 0 one sample away, a cube between. Assumes nothing.
use mathlib.Core.Path.{◌≡◌, subst, ap}
use Prim.Native.Nat.{ℕ, ◌+◌, ◌*◌, ◌<◌}
use native.Mathlib.Nat.{mul-pos}
use native.Mathlib.Omega.{arith}
use lib.Dec.{lit<}
use Rattle.floats.proofs.Near.{products}
use Rattle.polyblep.specs.Exact.{knee_after_in, knee_before_in, Fraction, IsNumber, fraction, whole, added, negated, taken, timed, Equals, Same, exact_third, exact_after, exact_before, part_of, height_of, RoundedCorner}

-- ---- every value is a number: its over is a product of overs
third-over : IsNumber exact_third
third-over = lit< tt

module _ (dt x : Fraction) (d : IsNumber dt) (h : IsNumber x) where
  square : 0 < x.over * x.over
  square = mul-pos h h

  cube_third : 0 < x.over * x.over * x.over * exact_third.over
  cube_third = mul-pos (mul-pos square h) third-over

  after-over : IsNumber (exact_after dt x)
  after-over = mul-pos (mul-pos (mul-pos (mul-pos square cube_third) h) third-over) d

  before-over : IsNumber (exact_before dt x)
  before-over = mul-pos (mul-pos (mul-pos (mul-pos cube_third square) h) third-over) d

part-over : (n m : ℕ) (dt : Fraction) → 0 < m → IsNumber dt → IsNumber (part_of n m dt)
part-over n m dt h d = mul-pos (mul-pos d h) (lit< tt)

-- ---- a branch value before the factor dt, a distance of p/q away, is a third of the cube
abbrev bracket_after : Fraction → Fraction
bracket_after x = added (knee_after_in added taken timed exact_third x) exact_third

abbrev bracket_before : Fraction → Fraction
bracket_before x = added (knee_before_in added taken timed exact_third x) exact_third

-- (1 - p/q)^3, multiplied out, for every p and q
abbrev out_of : ℕ → ℕ → Fraction
out_of p q = fraction (q * q * q + 3 * (q * (p * p))) (3 * (q * q * p) + p * p * p) (q * q * q * 3)

out_after : (p q : ℕ) → Equals (bracket_after (fraction p 0 q)) (out_of p q)
out_after p q = omega arith

out_before : (p q : ℕ) → Equals (bracket_before (negated (fraction p 0 q))) (out_of p q)
out_before p q = omega arith

-- and where p + r is q, (r/q)^3
out_is : (x : Fraction) (p r q : ℕ) → p + r ≡ q → Equals x (out_of p q) → Equals x (fraction (r * r * r) 0 (q * q * q * 3))
out_is x p r q e h = go x.up x.down x.over (q * q * q * 3) (q * q * q + 3 * (q * (p * p))) (3 * (q * q * p) + p * p * p) (r * r * r) (subst Cubes e (cubes p r)) h
  where
    Cubes : ℕ → Type 0
    Cubes n = n * n * n + 3 * (n * (p * p)) ≡ r * r * r + (3 * (n * n * p) + p * p * p)

    cubes : (p r : ℕ) → (let n = p + r in n * n * n + 3 * (n * (p * p)) ≡ r * r * r + (3 * (n * n * p) + p * p * p))
    cubes p r = omega arith

    go : (u v w m a b c : ℕ) → a ≡ c + b → u * m + b * w ≡ a * w + v * m → u * m + 0 * w ≡ c * w + v * m
    go u v w m a b c k h = omega (arith, ap (λ (z : ℕ). z * w) k)

-- x is n/m of a third: x times dt is n/m of a third of dt
carry : (x dt : Fraction) (n m : ℕ) → Equals x (fraction n 0 (m * 3)) → Equals (timed x dt) (part_of n m dt)
carry x dt n m e = go x.up x.down x.over dt.up dt.down dt.over e
  where
    go : (u v w a b d : ℕ) → u * (m * 3) + 0 * w ≡ n * w + v * (m * 3) → (u * a + v * b) * (d * m * 3) + b * n * (w * d) ≡ a * n * (w * d) + (u * b + v * a) * (d * m * 3)
    go u v w a b d e = simp products (omega (arith, simp products at (ap (λ (z : ℕ). z * a * d) e), simp products at (ap (λ (z : ℕ). z * b * d) e)))

-- ---- the height with 4 corrections, each n/q^3 of a third of dt
height : (y dt : Fraction) (p q n : ℕ) → Equals y (part_of n (q * q * q) dt) → Equals (height_of dt (fraction p 0 q) y) (part_of (4 * n + 12 * (p * q * q)) (q * q * q) dt)
height y dt p q n e = go y.up y.down y.over dt.up dt.down dt.over e
  where
    go : (u v w a b d : ℕ) → u * (d * (q * q * q) * 3) + b * n * w ≡ a * n * w + v * (d * (q * q * q) * 3)
        → ((4 * (p * a + 0 * b) + 0 * (p * b + 0 * a)) * (1 * w) + (4 * u + 0 * v) * (1 * (q * d))) * (d * (q * q * q) * 3) + b * (4 * n + 12 * (p * q * q)) * (1 * (q * d) * (1 * w))
        ≡ a * (4 * n + 12 * (p * q * q)) * (1 * (q * d) * (1 * w)) + ((4 * (p * b + 0 * a) + 0 * (p * a + 0 * b)) * (1 * w) + (4 * v + 0 * u) * (1 * (q * d))) * (d * (q * q * q) * 3)
    go u v w a b d e = simp products (omega (arith, simp products at (ap (λ (z : ℕ). z * (q * d)) e)))

-- where p + r is q, 4*r^3 + 12*p*q^2 has no term in p alone
level : (p r q : ℕ) → p + r ≡ q → 4 * (r * r * r) + 12 * (p * q * q) ≡ 4 * (q * q * q + p * p * (q + q + r))
level p r q e = subst (λ (n : ℕ). 4 * (r * r * r) + 12 * (p * n * n) ≡ 4 * (n * n * n + p * p * (n + n + r))) e (cubes p r)
  where
    cubes : (p r : ℕ) → (let n = p + r in 4 * (r * r * r) + 12 * (p * n * n) ≡ 4 * (n * n * n + p * p * (n + n + r)))
    cubes p r = omega arith

levels : (y dt : Fraction) (p r q : ℕ) → p + r ≡ q → 0 < q → IsNumber dt → Same y (part_of (r * r * r) (q * q * q) dt)
    → Same (height_of dt (fraction p 0 q) y) (part_of (4 * (q * q * q + p * p * (q + q + r))) (q * q * q) dt)
levels y dt p r q e h d s =
    record {
      left = mul-pos (mul-pos (lit< tt) (mul-pos h d)) (mul-pos (lit< tt) s.left);
      right = part-over (4 * (q * q * q + p * p * (q + q + r))) (q * q * q) dt (mul-pos (mul-pos h h) h) d;
      equal = subst (λ (n : ℕ). Equals (height_of dt (fraction p 0 q) y) (part_of n (q * q * q) dt)) (level p r q e) (height y dt p q (r * r * r) s.equal);
    }

-- ---- the claim
module _ (dt : Fraction) (d : IsNumber dt) where
  cubed_after : (p r q : ℕ) → p + r ≡ q → 0 < q → Same (exact_after dt (fraction p 0 q)) (part_of (r * r * r) (q * q * q) dt)
  cubed_after p r q e h =
      let x = fraction p 0 q in
      record {
        left = after-over dt x d h;
        right = part-over (r * r * r) (q * q * q) dt (mul-pos (mul-pos h h) h) d;
        equal = carry (bracket_after x) dt (r * r * r) (q * q * q) (out_is (bracket_after x) p r q e (out_after p q));
      }

  cubed_before : (p r q : ℕ) → p + r ≡ q → 0 < q → Same (exact_before dt (negated (fraction p 0 q))) (part_of (r * r * r) (q * q * q) dt)
  cubed_before p r q e h =
      let x = negated (fraction p 0 q) in
      record {
        left = before-over dt x d h;
        right = part-over (r * r * r) (q * q * q) dt (mul-pos (mul-pos h h) h) d;
        equal = carry (bracket_before x) dt (r * r * r) (q * q * q) (out_is (bracket_before x) p r q e (out_before p q));
      }

  pub rounded_corner : RoundedCorner dt
  rounded_corner =
      record {
        corner_after = record { left = after-over dt (whole 0) d (lit< tt); right = part-over 1 1 dt (lit< tt) d; equal = omega arith };
        corner_before = record { left = before-over dt (whole 0) d (lit< tt); right = part-over 1 1 dt (lit< tt) d; equal = omega arith };
        far-after = record { left = after-over dt (whole 1) d (lit< tt); right = lit< tt; equal = omega arith };
        far-before = record { left = before-over dt (negated (whole 1)) d (lit< tt); right = lit< tt; equal = omega arith };
        cube_after = cubed_after;
        cube_before = cubed_before;
        level-after = λ p r q e h. levels (exact_after dt (fraction p 0 q)) dt p r q e h d (cubed_after p r q e h);
        level_before = λ p r q e h. levels (exact_before dt (negated (fraction p 0 q))) dt p r q e h d (cubed_before p r q e h);
      }

-- `Same` tells numbers apart: whole numbers that are the same are equal
pub same_wholes : (m n : ℕ) → Same (whole m) (whole n) → m ≡ n
same_wholes m n e = omega (arith, e.equal)
