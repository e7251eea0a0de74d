-- The rules of the quarter wave. 01, "Pitch and sine": "strictly rising; T[k]^2 + T[1024-k]^2 within 2^31 of A^2; for k
-- to 512, 2*T[k]^2 within 2^31 of A*(A - T[1024-2k])".
--
-- The first rule is `entry_rises` of proofs/Rules.antt; the other two are defined here. Definitions only.
use Rattle.std.specs.Prelude.{ℕ, ◌+◌, ◌-◌, ◌*◌, ◌^◌, ◌≤◌}
use Rattle.sine.specs.Table.{entry_of}

-- A = 2^30
abbrev pub A : ℕ
A = 2 ^ 30

-- m and n are at most 2^31 apart
pub record Close (m n : ℕ) : Type 0 where
  pub above : m ≤ n + 2 ^ 31
  pub below : n ≤ m + 2 ^ 31

-- sin² + cos² = 1, times A²
abbrev pub SquareSum : ℕ → Type 0
SquareSum k = Close (entry_of k * entry_of k + entry_of (1024 - k) * entry_of (1024 - k)) (A * A)

-- 2 sin² = 1 - cos of the double angle, times A²
abbrev pub HalfAngle : ℕ → Type 0
HalfAngle k = Close (2 * (entry_of k * entry_of k)) (A * (A - entry_of (1024 - 2 * k)))
