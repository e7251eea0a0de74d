-- x - floor(x), rounded once, lies from 0 to 1, both ends included: a difference below 1 may round up to 1. For either
-- format. Assumes nothing.
use mathlib.Core.Path.{◌≡◌, sym, ap}
use mathlib.Core.Bool.{true, false, true≢false}
use Prim.Native.Nat.{ℕ, ◌+◌, ◌-◌, ◌*◌, ◌/◌, ◌≤◌, ◌<◌}
use native.Mathlib.Nat as nat
use native.Mathlib.Omega.{arith}
use lib.IntN.{ℤ}
use lib.Dec.{T, lit<}
use lib.Ieee.{Float, nan, inf, fin, Format, up, down, sub, le, fits}
use lib.Ieee.Fits.{down_pos, and_i}
use lib.Ieee.Exact.{HasValue}
use lib.Ieee.Scale.{finite}
use Rattle.floats.specs.Range.{plus_zero, plus_one, within}
use Rattle.floats.specs.Floor.{floor_of, roof}
use Rattle.floats.proofs.Order.{ge0→le, cross→le}
use Rattle.floats.proofs.Rounds.{Rounds, mono, rise, sub_rounds, one_rounds}
use Rattle.floats.proofs.Roof.{le-roof, roof-lt}
use Rattle.floats.proofs.Greatest.{floor_value}

-- x is a fraction of at most 1, rounded: 0 ≤ x ≤ 1
unit_in : (f : Format) (x : Float) (a c : ℕ) → 0 < c → Rounds f x a c → a ≤ c → T (within plus_zero plus_one x)
unit_in f x a c C r h = and_i (le plus_zero x) (le x plus_one) (ge0→le x r.sign) (mono f x plus_one a c 1 1 r (one_rounds f) C (lit< tt) (plain a c h))
  where
    plain : (a c : ℕ) → a ≤ c → a * 1 ≤ 1 * c
    plain a c h = omega arith

-- x is a / c, and its floor is w / v, the whole number n: the sign and the size of the difference, over c * v
module _ (a c n w v : ℕ) (e : w * 1 ≡ n * v) where
  floor_under : n * c ≤ a → w * c ≤ a * v
  floor_under h = go a c n w v e (nat.mul-le-mul_right v h)
    where
      go : (a c n w v : ℕ) → w * 1 ≡ n * v → n * c * v ≤ a * v → w * c ≤ a * v
      go a c n w v e h = omega (arith, ap (λ (z : ℕ). z * c) e)

  left_small : a < n * c + c → a * v - w * c ≤ c * v
  left_small h = go a c n w v e (nat.mul-le-mul_right v (nat.le_of_lt h))
    where
      go : (a c n w v : ℕ) → w * 1 ≡ n * v → a * v ≤ (n * c + c) * v → a * v - w * c ≤ c * v
      go a c n w v e h = omega (arith, ap (λ (z : ℕ). z * c) e)

  roof-over : a ≤ n * c → a * v ≤ w * c
  roof-over h = go a c n w v e (nat.mul-le-mul_right v h)
    where
      go : (a c n w v : ℕ) → w * 1 ≡ n * v → a * v ≤ n * c * v → a * v ≤ w * c
      go a c n w v e h = omega (arith, ap (λ (z : ℕ). z * c) e)

  over_small : n * c < a + c → w * c - a * v ≤ c * v
  over_small h = go a c n w v e (nat.mul-le-mul_right v (nat.le_of_lt h))
    where
      go : (a c n w v : ℕ) → w * 1 ≡ n * v → n * c * v ≤ (a + c) * v → w * c - a * v ≤ c * v
      go a c n w v e h = omega (arith, ap (λ (z : ℕ). z * c) e)

above_zero : (f : Format) (m : ℕ) (e : ℤ) (y : Float) → HasValue y false (m * up e / down e) 1 → T (within plus_zero plus_one (sub f (fin false m e) y))
above_zero f m e nan h = absurd h
above_zero f m e (inf t) h = absurd h
above_zero f m e (fin true n d) h = absurd (true≢false h.0)
above_zero f m e (fin false n d) h =
    let a = m * up e in
    let c = down e in
    unit_in f (sub f (fin false m e) (fin false n d)) (a * down d - n * up d * c) (c * down d) (nat.mul-pos (down_pos e) (down_pos d))
    (sub_rounds f (fin false m e) (fin false n d) tt tt (cross→le (fin false n d) (fin false m e) tt tt (floor_under a c (a / c) (n * up d) (down d) h.1 (nat.div-mul-le_self a c))))
    (left_small a c (a / c) (n * up d) (down d) h.1 (nat.lt-div-mul-add (down_pos e)))

below-zero : (f : Format) (m : ℕ) (e : ℤ) (y : Float) → HasValue y true (roof (m * up e) (down e)) 1 → T (within plus_zero plus_one (sub f (fin true m e) y))
unfolding sub
below-zero f m e nan h = absurd h
below-zero f m e (inf t) h = absurd h
below-zero f m e (fin false n d) h = absurd (true≢false (sym h.0))
below-zero f m e (fin true n d) h =
    let a = m * up e in
    let c = down e in
    let C : 0 < c * down d = nat.mul-pos (down_pos e) (down_pos d) in
    unit_in f (sub f (fin true m e) (fin true n d)) (n * up d * c - a * down d) (c * down d) C
    (rise f (a * down d) (n * up d * c) (c * down d) C (roof-over a c (roof a c) (n * up d) (down d) h.1 (le-roof a c (down_pos e))))
    (over_small a c (roof a c) (n * up d) (down d) h.1 (roof-lt a c (down_pos e)))

pub fraction_in : (f : Format) (x : Float) → T (fits f x) → T (finite x) → T (within plus_zero plus_one (sub f x (floor_of f x)))
fraction_in f nan w h = absurd h
fraction_in f (inf s) w h = absurd h
fraction_in f (fin true m e) w h = below-zero f m e (floor_of f (fin true m e)) (floor_value f true m e w)
fraction_in f (fin false m e) w h = above_zero f m e (floor_of f (fin false m e)) (floor_value f false m e w)
