-- The four quadrants by two tests: quadrants 0 and 2 run up the table, 1 and 3 down; 2 and 3 are negative. Assumes
-- nothing.
use mathlib.Core.Path.{◌≡◌, refl}
use mathlib.Core.List.{List}
use Prim.Native.Nat.{ℕ, zero, suc, ◌+◌, ◌-◌, ◌/◌, ◌%◌, ◌<◌}
use native.Mathlib.Omega.{arith}
use borrow.Author.Tests.{le-leb, lt-leb}
use lib.IntN.{ℤ}
use lib.Dec.{leb}
use lib.ListN.{get_or}
use lib.Ieee.{Float}
use Rattle.sine.specs.Sine.{start_of, end_of, signed_of, float, line_of, between_of}

module _ (wave : List ℕ) (i : ℕ) (h : i < 4096) where
  abbrev j : ℕ
  j = i % 1024

  abbrev whole : ℕ → ℤ
  whole n = signed_of (leb 2048 i) n

  -- a and b of quadrants 0 and 2
  up_start : (q : ℕ) → i / 1024 ≡ q → q % 2 ≡ 0 → start_of wave q j ≡ whole (get_or wave j 0)
  unfolding start_of
  up_start zero e p = rw (lt-leb 2048 i (omega arith)) refl
  up_start (suc zero) e p = absurd (omega arith)
  up_start (suc (suc zero)) e p = rw (le-leb 2048 i (omega arith)) refl
  up_start (suc (suc (suc q))) e p = absurd (omega arith)

  up_end : (q : ℕ) → i / 1024 ≡ q → q % 2 ≡ 0 → end_of wave q j ≡ whole (get_or wave (j + 1) 0)
  unfolding end_of
  up_end zero e p = rw (lt-leb 2048 i (omega arith)) refl
  up_end (suc zero) e p = absurd (omega arith)
  up_end (suc (suc zero)) e p = rw (le-leb 2048 i (omega arith)) refl
  up_end (suc (suc (suc q))) e p = absurd (omega arith)

  -- a and b of quadrants 1 and 3
  down_start : (q : ℕ) → i / 1024 ≡ q → (q % 2 ≡ 0 → ⊥) → start_of wave q j ≡ whole (get_or wave (1024 - j) 0)
  unfolding start_of
  down_start zero e p = absurd (p refl)
  down_start (suc zero) e p = rw (lt-leb 2048 i (omega arith)) refl
  down_start (suc (suc zero)) e p = absurd (p refl)
  down_start (suc (suc (suc zero))) e p = rw (le-leb 2048 i (omega arith)) refl
  down_start (suc (suc (suc (suc q)))) e p = absurd (omega arith)

  down_end : (q : ℕ) → i / 1024 ≡ q → (q % 2 ≡ 0 → ⊥) → end_of wave q j ≡ whole (get_or wave (1023 - j) 0)
  unfolding end_of
  down_end zero e p = absurd (p refl)
  down_end (suc zero) e p = rw (lt-leb 2048 i (omega arith)) refl
  down_end (suc (suc zero)) e p = absurd (p refl)
  down_end (suc (suc (suc zero))) e p = rw (le-leb 2048 i (omega arith)) refl
  down_end (suc (suc (suc (suc q)))) e p = absurd (omega arith)

  -- the line r from a to b, of the entries m and n
  module _ (f a b r : Float) (m n : ℕ) (A : a ≡ float (whole m)) (B : b ≡ float (whole n)) (R : r ≡ line_of a b f) where
    pub up_is : i / 1024 % 2 ≡ 0 → m ≡ get_or wave j 0 → n ≡ get_or wave (j + 1) 0 → r ≡ between_of wave i f
    up_is p e k = rw (up_start (i / 1024) refl p, up_end (i / 1024) refl p, R, A, B, e, k) refl

    pub down_is : (i / 1024 % 2 ≡ 0 → ⊥) → m ≡ get_or wave (1024 - j) 0 → n ≡ get_or wave (1023 - j) 0 → r ≡ between_of wave i f
    down_is p e k = rw (down_start (i / 1024) refl p, down_end (i / 1024) refl p, R, A, B, e, k) refl
