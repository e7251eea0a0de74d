-- The remainder is exact, so x % y is strictly below y: over one power of two, x % y has at most as many digits as x or
-- as y, times a power of two that the format has (`exact` of `Held.antt`). Assumes nothing.
use mathlib.Core.Path.{◌≡◌, ap, ◌∙◌}
use Prim.Native.Nat.{ℕ, zero, suc, ◌+◌, ◌-◌, ◌*◌, ◌/◌, ◌%◌, ◌^◌, ◌≤◌, ◌<◌}
use native.Mathlib.Nat as nat
use native.Mathlib.Omega.{arith}
use mathlib.Core.Bool.{Bool, true, false, not}
use lib.IntN.{ℤ}
use lib.Dec.{T, leb, lt→ltb, leb→le, nleb→lt}
use lib.Pow.{pow-add, pow_pos}
use lib.Ieee.{Float, nan, inf, fin, Format, up, down, round, rem, lt, fits}
use lib.Ieee.Fits.{up_pos, down_pos}
use lib.Ieee.Exact.{HasValue}
use lib.Ieee.Positive.{positive}
use Rattle.floats.specs.Range.{nonneg}
use Rattle.floats.proofs.Operations.{rem_is}
use Rattle.floats.proofs.Held.{ups, downs, up_is, down_is, split_pow, exact, zero-value}

-- ---- whole numbers
-- (a * k) % (b * k) is (a % b) * k
pub mod_scale : (a b k : ℕ) → 0 < k → a * k % (b * k) ≡ a % b * k
mod_scale a b k K = nat.mod_def (a * k) (b * k) ∙ rw (nat.mul-div-mul_right a b K, nat.mod_def a b, nat.mul_comm (a - b * (a / b)) k, nat.mul-sub k a (b * (a / b))) (omega arith)

-- ---- the remainder's value
-- a * 2 ^ u / 2 ^ v as a times one power of two
powers : (a : ℕ) (u v : ℤ) → a * up u * down v ≡ a * 2 ^ (ups u + downs v)
powers a u v = rw (up_is u, down_is v) (simp (pow-add, nat.mul_assoc))

-- the remainder of ±m * 2 ^ e by n * 2 ^ d rounds to itself
pub rem_value : (f : Format) (s : Bool) (m : ℕ) (e : ℤ) (n : ℕ) (d : ℤ) → T (fits f (fin s m e)) → T (fits f (fin false (suc n) d))
    → HasValue (round f s (m * up e * down d % (suc n * up d * down e)) (down e * down d)) s (m * up e * down d % (suc n * up d * down e)) (down e * down d)
rem_value f s m e n d h k = rw (powers m e d, powers (suc n) d e, down_is e, down_is d, ← pow-add 2 (downs e) (downs d)) (go (leb j i) (leb→le j i) (nleb→lt j i))
  where
    -- over the denominator 2 ^ w the dividend is m * 2 ^ i and the divisor (n + 1) * 2 ^ j
    i : ℕ
    i = ups e + downs d

    j : ℕ
    j = ups d + downs e

    w : ℕ
    w = downs e + downs d

    -- j ≤ i: the remainder is a number below n + 1, times the divisor's power of two
    coarse : j ≤ i → HasValue (round f s (m * 2 ^ i % (suc n * 2 ^ j)) (2 ^ w)) s (m * 2 ^ i % (suc n * 2 ^ j)) (2 ^ w)
    coarse l =
        let q = m * 2 ^ (i - j) % suc n in
        rw (split_pow m i j l, mod_scale (m * 2 ^ (i - j)) (suc n) (2 ^ j) (pow_pos j))
        (exact f s false n d k q (q * 2 ^ j) w (nat.le_of_lt (nat.mod-lt (m * 2 ^ (i - j)) (nat.zero-lt-suc n))) (simp (pow-add, nat.mul_assoc)))

    -- i ≤ j: the remainder is a number up to m, times the dividend's power of two
    fine : (m : ℕ) → T (fits f (fin s m e)) → i ≤ j → HasValue (round f s (m * 2 ^ i % (suc n * 2 ^ j)) (2 ^ w)) s (m * 2 ^ i % (suc n * 2 ^ j)) (2 ^ w)
    fine zero h l =
        let z : 0 % (suc n * 2 ^ j) ≡ 0 = nat.mod-eq_of_lt (nat.mul-pos (nat.zero-lt-suc n) (pow_pos j)) in
        rw (nat.zero-mul (2 ^ i), z) (zero-value f s (2 ^ w) (pow_pos w))
    fine (suc m) h l =
        let q = suc m % (suc n * 2 ^ (j - i)) in
        rw (split_pow (suc n) j i l, mod_scale (suc m) (suc n * 2 ^ (j - i)) (2 ^ i) (pow_pos i))
        (exact f s s m e h q (q * 2 ^ i) w (nat.mod-le (suc m) (suc n * 2 ^ (j - i))) (simp (pow-add, nat.mul_assoc, nat.mul_comm, nat.mul_left_comm)))

    go : (b : Bool) → (T b → j ≤ i) → (T (not b) → i < j) → HasValue (round f s (m * 2 ^ i % (suc n * 2 ^ j)) (2 ^ w)) s (m * 2 ^ i % (suc n * 2 ^ j)) (2 ^ w)
    go true a b = coarse (a tt)
    go false a b = fine m h (nat.le_of_lt (b tt))

-- ---- x % y < y
-- z is ±r / c, and r / c < n * 2 ^ d: z < n * 2 ^ d
lt_of_value : (z : Float) (s : Bool) (r c n : ℕ) (d : ℤ) → 0 < c → HasValue z s r c → 0 < n → r * down d < n * up d * c → T (lt z (fin false n d))
unfolding lt
lt_of_value nan s r c n d C h N l = absurd h
lt_of_value (inf t) s r c n d C h N l = absurd h
lt_of_value (fin true m e) s r c n d C h N l = lt→ltb 0 (m * up e * down d + n * up d * down e) (omega (arith, nat.mul-pos (nat.mul-pos N (up_pos d)) (down_pos e)))
lt_of_value (fin false m e) s r c n d C h N l =
    lt→ltb (m * up e * down d) (n * up d * down e)
    (nat.lt_of_mul-lt-mul_right c (omega (arith, ap (λ (z : ℕ). z * down d) h.1, nat.mul-lt-mul_of_pos_right l (down_pos e))))

-- x and y are values of the format, 0 ≤ x and 0 < y: x % y < y
pub rem_lt : (f : Format) (x y : Float) → T (fits f x) → T (fits f y) → T (nonneg x) → T (positive y) → T (lt (rem f x y) y)
rem_lt f nan y h k p q = absurd p
rem_lt f (inf s) y h k p q = absurd p
rem_lt f (fin s m e) nan h k p q = absurd q
rem_lt f (fin s m e) (inf t) h k p q = absurd q
rem_lt f (fin s m e) (fin true n d) h k p q = absurd q
rem_lt f (fin s m e) (fin false zero d) h k p q = absurd q
rem_lt f (fin s m e) (fin false (suc n) d) h k p q =
    let r = m * up e * down d % (suc n * up d * down e) in
    let Y : 0 < suc n * up d * down e = nat.mul-pos (nat.mul-pos (nat.zero-lt-suc n) (up_pos d)) (down_pos e) in
    rw (rem_is f (fin s m e) (fin false (suc n) d) tt q)
    (lt_of_value (round f s r (down e * down d)) s r (down e * down d) (suc n) d (nat.mul-pos (down_pos e) (down_pos d)) (rem_value f s m e n d h k) (nat.zero-lt-suc n)
    (omega (arith, nat.mul-lt-mul_of_pos_right (nat.mod-lt (m * up e * down d) Y) (down_pos d))))
