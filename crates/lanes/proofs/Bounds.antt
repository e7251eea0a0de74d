-- 0.5 is the exact bound up to which the two tests never hold at once: a dt above 0.5 is at least the next float, whose
-- 1 - dt is below 0.5, so that both tests hold at t = 0.5. Assumes nothing.
use Rattle.std.proofs.Common.{◌≡◌, ℕ, suc, ◌*◌, ◌^◌, ◌<◌, ◌≤◌, true, false, T, pos, negsuc, refl, arith, pow_mono}
use native.Mathlib.Nat as nat
use lib.Ieee.{Float, nan, inf, fin, binary64, of_bits, neg, add, sub, lt, le, fits}
use lib.Ieee.Fits.{and_i}
use lib.Ieee.Scale.{finite}
use lib.Ieee.Positive.{num, den}
use Rattle.floats.specs.Range.{nonneg, largest}
use Rattle.floats.specs.Double.{◌⊕◌, ◌⊖◌, half, one}
use Rattle.floats.proofs.Order.{lt_not_le, le-lt-lt, fle_refl, cross→le, Le→le}
use Rattle.floats.proofs.Near.{sub_order}
use Rattle.floats.proofs.Held.{fits_small}
use Rattle.floats.proofs.Largest.{finite-at_most, finite-at-least}
use Rattle.floats.proofs.Bounded.{Size, size-finite, size_own, size-sub}
use Rattle.lanes.specs.Single.{Bound}

-- 0.5 + 2^-53
abbrev next : Float
next = of_bits binary64 0x3fe0_0000_0000_0001

-- m * 2^k is above 1/2: it is at least 1
whole-next : (n : ℕ) → 1 * 1 < n * 2 → 4503599627370497 * 1 ≤ n * 9007199254740992
whole-next n h = omega arith

-- m / 2^(k + 1) is above 1/2, and m below 2^53: so is 2^k, and m is at least 2^k + 1
part-next : (m k : ℕ) → m < 2 ^ 53 → 1 * 2 ^ suc k < m * 1 * 2 → 4503599627370497 * 2 ^ suc k ≤ m * 1 * 9007199254740992
part-next m k w h =
    let low : 2 ^ k < m = halves (2 ^ k) (2 ^ suc k) (nat.pow-succ' 2 k) h in
    let few : k ≤ 52 = omega (arith, nat.lt_of_not-le (λ (g : 53 ≤ k). nat.lt_irrefl m (nat.lt_trans (nat.lt_of_lt_of_le w (pow_mono g)) low))) in
    scaled (2 ^ k) (2 ^ suc k) (nat.pow-succ' 2 k) low (pow_mono few)
  where
    halves : (p q : ℕ) → q ≡ 2 * p → 1 * q < m * 1 * 2 → p < m
    halves p q e l = omega arith

    scaled : (p q : ℕ) → q ≡ 2 * p → p < m → p ≤ 4503599627370496 → 4503599627370497 * q ≤ m * 1 * 9007199254740992
    scaled p q e l u = omega arith

half-parts : (num half ≡ 1) × (den half ≡ 2)
half-parts = unfold of_bits in (refl, refl)

next-parts : (num next ≡ 4503599627370497) × (den next ≡ 9007199254740992)
next-parts = unfold of_bits in (refl, refl)

-- 0.5 < x, as fractions
above : (x : Float) → T (nonneg x) → T (lt half x) → 1 * den x < num x * 2
above x q h = nat.lt_of_not-le (λ (g : num x * 2 ≤ 1 * den x). lt_not_le half x h (cross→le x half q (unfold of_bits in tt) (rw (half-parts.0, half-parts.1) g)))

at_least : (x : Float) → T (nonneg x) → 4503599627370497 * den x ≤ num x * 9007199254740992 → T (le next x)
at_least x q h = cross→le next x (unfold of_bits in tt) q (rw (next-parts.0, next-parts.1) h)

next_le : (x : Float) → T (fits binary64 x) → T (finite x) → T (lt half x) → T (le next x)
next_le nan w k h = absurd k
next_le (inf s) w k h = absurd k
next_le (fin true m e) w k h = absurd (lt_not_le half (fin true m e) h (Le→le (fin true m e) half (unfold of_bits in tt)))
next_le (fin false m (pos k)) w q h = at_least (fin false m (pos k)) tt (whole-next (m * 2 ^ k) (above (fin false m (pos k)) tt h))
next_le (fin false m (negsuc k)) w q h = at_least (fin false m (negsuc k)) tt (part-next m k (fits_small binary64 false m (negsuc k) w) (above (fin false m (negsuc k)) tt h))

-- 1 - dt is finite for every finite dt: it is at most 1 + largest in size
less-finite : (dt : Float) → T (fits binary64 dt) → T (finite dt) → T (finite (one ⊖ dt))
less-finite dt w k =
    let widest : Size (largest binary64) dt = record { bound = tt; between = and_i (le (neg (largest binary64)) dt) (le dt (largest binary64)) (finite-at-least binary64 dt w k) (finite-at_most binary64 dt w k) } in
    size-finite (one ⊕ largest binary64) (one ⊖ dt) (size-sub binary64 one one (largest binary64) dt (size_own one (unfold of_bits in tt)) widest (unfold of_bits in unfold add in tt))

pub bound : (dt : Float) → Bound dt
bound dt w k h =
    and_i (lt half dt) (lt (one ⊖ dt) half) h
    (le-lt-lt (one ⊖ dt) (one ⊖ next) half (less-finite dt w k) (unfold of_bits in tt)
    (sub_order binary64 one one dt next (unfold of_bits in tt) (unfold of_bits in tt) k (unfold of_bits in tt) (fle_refl one (unfold of_bits in tt)) (next_le dt w k h))
    (unfold of_bits in unfold sub in unfold lt in tt))
