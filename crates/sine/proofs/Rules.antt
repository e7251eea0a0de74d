-- The rules of the quarter wave: one test over the list, carried to every entry. Assumes nothing.
use mathlib.Core.Path.{◌≡◌, refl}
use mathlib.Core.Bool.{Bool, true, false, ◌&&◌, ◌||◌}
use Prim.Native.Nat.{ℕ, suc, ◌+◌, ◌-◌, ◌*◌, ◌^◌, ◌<◌, ◌≤◌}
use native.Mathlib.Omega.{arith}
use lib.Dec.{T, ltb, leb, ltb→lt, leb→le}
use lib.ListN.{length}
use lib.Ieee.Fits.{and_l, and_r}
use Rattle.sine.specs.Table.{quarter, entry_of}
use Rattle.sine.specs.Wave.{A, Close, SquareSum, HalfAngle}
use Rattle.floats.proofs.Carried.{every, at}

-- ---- the test at entry k, which is x
abbrev close : ℕ → ℕ → Bool
close m n = leb m (n + 2 ^ 31) && leb n (m + 2 ^ 31)

abbrev rises : ℕ → ℕ → Bool
rises k x = leb 1024 k || ltb x (entry_of (suc k))

abbrev squares : ℕ → ℕ → Bool
squares k x = let y = entry_of (1024 - k) in close (x * x + y * y) (A * A)

abbrev halves : ℕ → ℕ → Bool
halves k x = ltb 512 k || close (2 * (x * x)) (A * (A - entry_of (1024 - 2 * k)))

abbrev right : ℕ → ℕ → Bool
right k x = (leb x A && rises k x) && (squares k x && halves k x)

-- the test passes at every entry
all_right_lem : T (every right 0 quarter)
unfolding quarter
all_right_lem = tt

-- there are 1,025 entries
pub count : length quarter ≡ 1025
unfolding quarter
count = refl

-- ---- what a passed test shows
-- two numbers that are close
is-close : (m n : ℕ) → T (close m n) → Close m n
is-close m n t =
    record {
      above = leb→le m (n + 2 ^ 31) (and_l (leb m (n + 2 ^ 31)) (leb n (m + 2 ^ 31)) t);
      below = leb→le n (m + 2 ^ 31) (and_r (leb m (n + 2 ^ 31)) (leb n (m + 2 ^ 31)) t);
    }

-- one of two tests, the first of which fails
second : (a b : Bool) → (T a → ⊥) → T (a || b) → T b
second true b n t = absurd (n tt)
second false b n t = t

module _ (k : ℕ) (h : k < 1025) where
  abbrev x : ℕ
  x = entry_of k

  first_two : T (leb x A && rises k x)
  first_two = and_l (leb x A && rises k x) (squares k x && halves k x) (at right quarter all_right_lem k (rw count h))

  last-two : T (squares k x && halves k x)
  last-two = and_r (leb x A && rises k x) (squares k x && halves k x) (at right quarter all_right_lem k (rw count h))

  -- no entry is above 2^30
  pub entry_in : x ≤ A
  entry_in = leb→le x A (and_l (leb x A) (rises k x) first_two)

  rises_at : k < 1024 → x < entry_of (suc k)
  rises_at l = ltb→lt x (entry_of (suc k)) (second (leb 1024 k) (ltb x (entry_of (suc k))) (λ (t : T (leb 1024 k)). omega (arith, leb→le 1024 k t)) (and_r (leb x A) (rises k x) first_two))

  -- T[k]^2 + T[1024-k]^2 is close to A^2
  pub square-sum : SquareSum k
  square-sum = is-close _ _ (and_l (squares k x) (halves k x) last-two)

  half_at : k ≤ 512 → HalfAngle k
  half_at l = is-close _ _ (second (ltb 512 k) _ (λ (t : T (ltb 512 k)). omega (arith, ltb→lt 512 k t)) (and_r (squares k x) (halves k x) last-two))

-- each entry is above the one before it
pub entry_rises : (k : ℕ) → k < 1024 → entry_of k < entry_of (suc k)
entry_rises k h = rises_at k (omega arith) h

-- 2*T[k]^2 is close to A*(A - T[1024-2k])
pub half_angle : (k : ℕ) → k ≤ 512 → HalfAngle k
half_angle k h = half_at k (omega arith) h

-- the first, the middle and the last
pub entry_0 : entry_of 0 ≡ 0
unfolding quarter
entry_0 = refl

pub entry_512 : entry_of 512 ≡ 759250125
unfolding quarter
entry_512 = refl

pub entry_1024 : entry_of 1024 ≡ 1073741824
unfolding quarter
entry_1024 = refl
