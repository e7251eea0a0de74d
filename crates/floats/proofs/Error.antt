-- How far a rounded value can lie below its fraction, in the normal range: if x is a / c rounded, then
-- a / c ≤ x * (1 + 2 ^ -prec). Assumes nothing.
use mathlib.Core.Path.{◌≡◌, sym, ap, ◌∙◌, subst}
use Prim.Native.Nat.{ℕ, suc, ◌+◌, ◌-◌, ◌*◌, ◌/◌, ◌%◌, ◌^◌}
use Prim.Native.Nat.{◌≤◌, ◌<◌, compare, Ordering}
use native.Mathlib.Nat.{le_trans, le_of_eq, le_of_mul-le-mul_right, mul-le-mul_right, mul-pos, mod-lt, div-add-mod', div-div-eq-div-mul, le-div_iff_mul-le, pow-succ'}
use native.Mathlib.Omega.{arith}
use mathlib.Core.Bool.{false}
use lib.Dec.{T, is_le, leb→le}
use lib.Pow.{pow-add, pow_pos}
use lib.Ieee.{Float, Format, prec, low, size, nearest, round}
use lib.Ieee.Digits.{size_reaches}
use lib.Ieee.Fits.{two, two-le_pos}
use lib.Ieee.Nearest.{closest, nearest-ge}
use lib.Ieee.Order.{drop, kept}
use lib.Ieee.Scale.{grid, round_val, round_under}
use lib.Ieee.Positive.{num, den, den_pos, value→cross}
use Rattle.floats.specs.Range.{nonneg}
use Rattle.floats.proofs.Order.{nonneg→finite, under, le→cross}
use Rattle.floats.proofs.Rounds.{Rounds, ge0-round}

-- n = q * u + r: n / u is at most a half above the whole number nearest to it
nearest_err : (q r u : ℕ) (o : Ordering) → r < u → (T (is_le o) → r * 2 ≤ u) → 2 * (q * u + r) ≤ (2 * nearest q o + 1) * u
nearest_err q r u Ordering.lt h k = omega (arith, k tt)
nearest_err q r u Ordering.eq h k = even (q % 2)
  where
    even : (z : ℕ) → 2 * (q * u + r) ≤ (2 * (q + z) + 1) * u
    even z = omega (arith, k tt)
nearest_err q r u Ordering.gt h k = omega arith

-- n / u is at most a half above the whole number nearest to it, by the quotient and the remainder of n by u
closest_err : (n u : ℕ) → 0 < u → 2 * n ≤ (2 * closest n u + 1) * u
closest_err n u U =
    subst (λ (z : ℕ). 2 * z ≤ (2 * closest n u + 1) * u) (div-add-mod' n u)
    (nearest_err (n / u) (n % u) u (compare (n % u * 2) u) (mod-lt n U) (leb→le (n % u * 2) u))

-- in the normal range the kept number has all p digits
kept_full : (p n c : ℕ) → 0 < p → p ≤ size (n / c) → 2 ^ (p - 1) ≤ kept p n c
kept_full p n c P N =
    let k = drop p n c in
    let u = c * 2 ^ k in
    let w = n / c in
    let a : 2 ^ (p - 1) * 2 ^ k ≤ w = le_trans (le_of_eq (sym (pow-add 2 (p - 1) k))) (size_reaches w (p - 1 + k) (omega arith)) in
    le_trans (subst (λ (x : ℕ). 2 ^ (p - 1) ≤ x) (div-div-eq-div-mul n c (2 ^ k)) ((le-div_iff_mul-le (pow_pos k)).1 a)) (nearest-ge (n / u) (compare (n % u * 2) u))

halves : (p : ℕ) → 0 < p → 2 ^ p ≡ 2 * 2 ^ (p - 1)
halves p P = let e : p ≡ suc (p - 1) = omega arith in ap (λ (z : ℕ). 2 ^ z) e ∙ pow-succ' 2 (p - 1)

-- in the normal range, a fraction in units of the smallest value is at most one part in 2 ^ prec above its rounding
grid_err : (f : Format) (a c : ℕ) → 0 < c → prec f ≤ size (a * 2 ^ low f / c) → a * 2 ^ low f * 2 ^ prec f ≤ grid f a c * c * (2 ^ prec f + 1)
grid_err f a c C N =
    let p = prec f in
    let P : 0 < p = two-le_pos p (two f) in
    let n = a * 2 ^ low f in
    let k = drop p n c in
    let u = c * 2 ^ k in
    let m : 2 ^ p ≤ 2 * kept p n c = omega (arith, kept_full p n c P N, halves p P) in
    omega (arith, mul-le-mul_right (2 ^ p) (closest_err n u (mul-pos C (pow_pos k))), mul-le-mul_right u m)

-- x is a / c rounded, in the normal range: a / c ≤ x * (1 + 2 ^ -prec)
pub rounded_err : (f : Format) (x : Float) (a c : ℕ) → Rounds f x a c → T (nonneg x) → 0 < c → prec f ≤ size (a * 2 ^ low f / c)
    → a * den x * 2 ^ prec f ≤ num x * c * (2 ^ prec f + 1)
rounded_err f x a c r q C N =
    let y = round f false a c in
    let ny : T (nonneg y) = under y x (ge0-round f a c) (nonneg→finite x q) r.lower in
    let v : num y * 2 ^ low f ≡ grid f a c * den y = value→cross y (grid f a c) (2 ^ low f) (round_val f a c (round_under f a c (nonneg→finite y ny))) in
    let g : grid f a c * den x ≤ num x * 2 ^ low f =
    le_of_mul-le-mul_right (omega (arith, ap (λ (z : ℕ). z * den x) v, mul-le-mul_right (2 ^ low f) (le→cross y x ny q r.lower))) (den_pos y) in
    le_of_mul-le-mul_right (omega (arith, mul-le-mul_right (den x) (grid_err f a c C N), mul-le-mul_right (c * (2 ^ prec f + 1)) g)) (pow_pos (low f))
