-- How many records lie below a position. The "records acted" of an entry and of a continued state must be this number
-- (01, "What a call says", 8 and 10). Definitions only.
use Rattle.std.specs.Prelude.{Bool, true, cond, ◌&&◌, ◌||◌, List, ℕ, zero, suc, ◌+◌, ◌-◌, ◌≤◌, ◌<◌, ltb, leb}
use Rattle.runs.specs.Runs.{first_passing}
use Rattle.score.specs.Record.{count_of, position_at}

-- how many of the first n records have a position below p
unfoldable pub below : List ℕ → ℕ → ℕ → ℕ
below s p zero = 0
below s p (suc n) = below s p n + cond (ltb (position_at s n) p) 1 0

abbrev pub count_below : List ℕ → ℕ → ℕ
count_below s p = below s p (count_of s)

-- k is 0, or record k - 1 is below p
unfoldable pub last_below : List ℕ → ℕ → ℕ → Bool
last_below s zero p = true
last_below s (suc k) p = ltb (position_at s k) p

-- there are at least k records; record k - 1, if k is not 0, is below p, and record k, if there is one, is not
unfoldable pub is_count_below : List ℕ → ℕ → ℕ → Bool
is_count_below s k p = leb k (count_of s) && last_below s k p && (leb (count_of s) k || leb p (position_at s k))

-- from record i on, the index of the first record that is not below p; the number of records where there is none, or i
-- where i is more
unfoldable pub next_not_below : List ℕ → ℕ → ℕ → ℕ
next_not_below s i p = first_passing (λ (j : ℕ). leb p (position_at s j)) (count_of s - i) i

-- positions never fall
pub record Sorted (s : List ℕ) : Type 0 where
  pub adjacent : (i : ℕ) → suc i < count_of s → position_at s i ≤ position_at s (suc i)

-- the first k records are below p, the rest at or above it
pub record Cut (s : List ℕ) (p k : ℕ) : Type 0 where
  pub inside : k ≤ count_of s
  pub lows : (i : ℕ) → i < k → position_at s i < p
  pub highs : (i : ℕ) → k ≤ i → i < count_of s → p ≤ position_at s i
