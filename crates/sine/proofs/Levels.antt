-- The whole wave is unfolded from the quarter: points 0 to 1024 are the table's entries, quadrant 1 mirrors quadrant 0,
-- and quadrants 2 and 3 are the negatives of 0 and 1. Assumes nothing.
use mathlib.Core.Path.{◌≡◌, refl, sym, ap, ◌∙◌}
use mathlib.Core.Bool.{Bool, true, false, cond, true≢false}
use mathlib.Core.List.{List, [], ◌∷◌, ◌++◌}
use mathlib.Core.Logic.{⊎_elim}
use Prim.Native.Nat.{ℕ, zero, suc, ◌+◌, ◌-◌, ◌*◌, ◌/◌, ◌%◌, ◌^◌, ◌<◌}
use native.Mathlib.Nat.{le_of_eq, eq-or-lt_of_le, le_of_suc-le-suc, zero-lt-suc, sub-zero, mul-pos}
use native.Mathlib.Numerals.{add-one}
use native.Mathlib.Omega.{arith}
use borrow.Author.Tests.{lt-ltb}
use lib.IntN.{ℤ, pos, negsuc, neg_ℤ}
use lib.Dec.{lit≤, lit<}
use lib.ListN.{get_or, set, replicate, length-replicate, length-set}
use lib.Seq.{take-suc-set, take_all, get_or-take}
use lib.Ieee.{Float, nan, inf, fin, binary64, up, down, of_bits, of_int, round, neg, sum, add, sub}
use lib.Ieee.Fits.{down_pos}
use lib.Ieee.Back.{round_whole}
use lib.Ieee.Exact.{HasValue}
use lib.Ieee.Scale.{round_same}
use Rattle.runs.specs.Runs.{listed}
use Rattle.runs.proofs.Listed.{listed_more, listed_at}
use Rattle.floats.specs.Double.{◌⊖◌, zero64}
use Rattle.sine.specs.Table.{quarter, entry_of}
use Rattle.sine.specs.Sine.{float, start_of}
use Rattle.sine.specs.Whole.{level_of, levels, whole_wave}
use Rattle.sine.specs.Inner.{Unfolded}
use Rattle.sine.proofs.Wholes.{Sized, sized_more}
use Rattle.sine.proofs.Bounds.{start_sized}

-- ---- 0 - z is -z for a whole number z, and +0 for 0
-- 0 - b / c, where b / c is n
less : (a b c n : ℕ) → 0 < c → a ≡ 0 → b * 1 ≡ n * c → sum binary64 false a true b c ≡ float (neg_ℤ (pos n))
unfolding sum of_int
less a b c zero C e h = let z : b ≡ 0 = omega arith in rw (e, z) (round_same binary64 false 0 c 0 1 C (lit< tt) (omega arith))
less a b c (suc n) C e h = rw (e, lt-ltb 0 b (omega (arith, mul-pos (zero-lt-suc n) C)), sub-zero b) (round_same binary64 true b c (suc n) 1 C (lit< tt) h)

-- 0 + b / c
more : (a b c n : ℕ) → 0 < c → a ≡ 0 → b * 1 ≡ n * c → sum binary64 false a false b c ≡ round binary64 false n 1
unfolding sum
more a b c n C e h = rw e (round_same binary64 false (0 + b) c n 1 C (lit< tt) (omega arith))

-- 0 - x, where x is n or, if s, -n
from_zero : (x : Float) (s : Bool) (n : ℕ) → HasValue x s n 1 → zero64 ⊖ x ≡ cond s (round binary64 false n 1) (float (neg_ℤ (pos n)))
unfolding of_bits sub neg add
from_zero nan s n h = absurd h
from_zero (inf t) s n h = absurd h
from_zero (fin true m e) false n h = absurd (true≢false h.0)
from_zero (fin false m e) true n h = absurd (true≢false (sym h.0))
from_zero (fin true m e) true n h = more (0 * up (pos 0) * down e) (m * up e * down (pos 0)) (down (pos 0) * down e) n (mul-pos (lit< tt) (down_pos e)) (omega arith) (omega (arith, h.1))
from_zero (fin false m e) false n h = less (0 * up (pos 0) * down e) (m * up e * down (pos 0)) (down (pos 0) * down e) n (mul-pos (lit< tt) (down_pos e)) (omega arith) (omega (arith, h.1))

pub negated : (z : ℤ) → Sized (2 ^ 53) z → zero64 ⊖ float z ≡ float (neg_ℤ z)
unfolding of_int
negated (pos n) s = from_zero (round binary64 false n 1) false n (round_whole binary64 false n s.up)
negated (negsuc n) s = from_zero (round binary64 true (suc n) 1) true (suc n) (round_whole binary64 true (suc n) s.down)

-- ---- 01's a at point i
abbrev whole_at : ℕ → ℤ
whole_at i = start_of quarter (i / 1024) (i % 1024)

-- point i is j in quadrant q
pub at-is : (i q j : ℕ) → i / 1024 ≡ q → i % 1024 ≡ j → level_of i ≡ float (start_of quarter q j)
at-is i q j e k = rw (e, k) refl

pub level-rise : (k : ℕ) → k < 1025 → level_of k ≡ float (pos (entry_of k))
unfolding start_of
level-rise k h =
    ⊎_elim (λ e. rw e refl)
    (λ l. at-is k 0 k (omega arith) (omega arith))
    (eq-or-lt_of_le (le_of_suc-le-suc h))

pub level-fall : (k : ℕ) → k < 1023 → level_of (1025 + k) ≡ level_of (1023 - k)
unfolding start_of
level-fall k h =
    at-is (1025 + k) 1 (k + 1) (omega arith) (omega arith)
    ∙ ap (λ (n : ℕ). float (pos (entry_of n))) (omega arith)
    ∙ sym (level-rise (1023 - k) (omega arith))

pub level-negate : (k : ℕ) → level_of (2048 + k) ≡ zero64 ⊖ level_of k
unfolding start_of
level-negate k =
    at-is (2048 + k) (suc (suc (k / 1024))) (k % 1024) (omega arith) (omega arith)
    ∙ sym (negated (whole_at k) (sized_more (2 ^ 30) (2 ^ 53) (whole_at k) (lit≤ tt) (start_sized (k / 1024) (k % 1024))))

-- ---- the first n points in a list
pub levels_more : (n : ℕ) → levels (n + 1) ≡ levels n ++ (level_of n ∷ [])
unfolding levels
levels_more = listed_more level_of

pub level-at : (i n : ℕ) → i < n → get_or (levels n) i nan ≡ level_of i
unfolding levels
level-at i n = listed_at level_of n i nan

-- ---- a table that is written from its start
-- no point is written yet; a written point is read; one more is written; all are written
pub blank : (x : Float) → Unfolded 0 (replicate 4097 x)
unfolding levels listed
blank x = record { size = length-replicate 4097 x; points = refl }

module _ (n : ℕ) (wave : List Float) (u : Unfolded n wave) where
  pub read : (i : ℕ) → i < n → get_or wave i nan ≡ level_of i
  read i h = sym (get_or-take n wave i nan h) ∙ rw u.points (level-at i n h)

  pub written : (x : Float) → n < 4097 → x ≡ level_of n → Unfolded (n + 1) (set wave n x)
  written x h e = record { size = simp length-set u.size; points = rw (levels_more n, add-one n, take-suc-set wave n x (rw u.size h), u.points, e) refl }

pub unfolded : (wave : List Float) → Unfolded 4097 wave → wave ≡ whole_wave
unfolded wave u = sym (take_all 4097 wave (le_of_eq u.size)) ∙ u.points
