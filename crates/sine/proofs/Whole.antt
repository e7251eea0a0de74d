-- The reading of an unfolded wave, case by case. The reading of the whole wave is that of the quarter wave, since b at
-- a point is a at the next. Assumes nothing.
use mathlib.Core.Path.{◌≡◌, refl, sym, ap, ◌∙◌, subst}
use mathlib.Core.Bool.{Bool, true, false, cond, and-false}
use mathlib.Core.List.{List}
use mathlib.Core.Logic.{⊎_elim}
use Prim.Native.Nat.{ℕ, zero, suc, ◌+◌, ◌/◌, ◌%◌, ◌≤◌, ◌<◌}
use native.Mathlib.Nat.{eq-or-lt_of_le, le_of_suc-le-suc, mod-eq_of_lt}
use native.Mathlib.Omega.{arith}
use borrow.Author.Tests.{eq-eqb, ne_eqb, eqb-true, eqb-false}
use lib.IntN.{pos, neg_ℤ}
use lib.Dec.{T, eqb, lit<}
use lib.ListN.{length}
use lib.Ieee.{Float}
use Rattle.runs.proofs.Listed.{listed-length}
use Rattle.floats.specs.Range.{within}
use Rattle.floats.specs.Double.{◌⊖◌, ◌⊗◌, zero64, one}
use Rattle.sine.specs.Table.{quarter, entry_of}
use Rattle.sine.specs.Sine.{steps, whole_part, float, start_of, end_of, between_of, point_of, reading_of}
use Rattle.sine.specs.Whole.{level_of, levels, whole_wave, whole_line, whole_point_of, whole_reading}
use Rattle.sine.proofs.Rules.{entry_0}
use Rattle.sine.proofs.Parts.{whole-at_most}
use Rattle.sine.proofs.Sums.{none_left}
use Rattle.sine.proofs.Points.{reading-inside, reading-outside, point-last, point_at, points_in}
use Rattle.sine.proofs.Levels.{at-is, level-at}

-- ---- the reading of a table W
module _ (W : List Float) where
  -- u from 0 to 1 in a table as long as the wave, any other u, and any other table
  pub whole-inside : (u : Float) → length W ≡ 4097 → within zero64 one u ≡ true → whole_reading W u ≡ whole_point_of W (u ⊗ steps)
  unfolding whole_reading
  whole-inside u l e = rw (e, l) refl

  pub whole-outside : (u : Float) → within zero64 one u ≡ false → whole_reading W u ≡ zero64
  unfolding whole_reading
  whole-outside u e = rw e refl

  pub whole-other : (u : Float) → (length W ≡ 4097 → ⊥) → whole_reading W u ≡ zero64
  unfolding whole_reading
  whole-other u n = rw (ne_eqb (length W) 4097 n, and-false (within zero64 one u)) refl

  -- p = 4096, and any other, whose whole part is i
  pub whole-last : (p : Float) → whole_part p ≡ 4096 → whole_point_of W p ≡ whole_line W 0 zero64
  unfolding whole_point_of
  whole-last p e = ap (λ (b : Bool). cond b (whole_line W 0 zero64) (whole_line W (whole_part p) (p ⊖ float (pos (whole_part p))))) (eq-eqb (whole_part p) 4096 e)

  pub whole-at : (p : Float) (i : ℕ) → i ≡ whole_part p → (i ≡ 4096 → ⊥) → whole_point_of W p ≡ whole_line W i (p ⊖ float (pos i))
  unfolding whole_point_of
  whole-at p i e n =
      ap (λ (b : Bool). cond b (whole_line W 0 zero64) (whole_line W (whole_part p) (p ⊖ float (pos (whole_part p))))) (ne_eqb (whole_part p) 4096 (λ (z : whole_part p ≡ 4096). n (e ∙ z)))
      ∙ ap (λ (k : ℕ). whole_line W k (p ⊖ float (pos k))) (sym e)

  -- 4096 is read as 0, where nothing is left: so the point is a remainder
  pub whole-near : (p : Float) → T (within zero64 steps p) → whole_point_of W p ≡ whole_line W (whole_part p % 4096) (p ⊖ float (pos (whole_part p)))
  whole-near p h = go (eqb (whole_part p) 4096) refl
    where
      go : (t : Bool) → eqb (whole_part p) 4096 ≡ t → whole_point_of W p ≡ whole_line W (whole_part p % 4096) (p ⊖ float (pos (whole_part p)))
      go true e = let l = eqb-true (whole_part p) 4096 e in whole-last p l ∙ rw (none_left p h l, l) refl
      go false e =
          let n = eqb-false (whole_part p) 4096 e in
          let few = whole-at_most p h in
          whole-at p (whole_part p) refl n ∙ ap (λ (i : ℕ). whole_line W i (p ⊖ float (pos (whole_part p)))) (sym (mod-eq_of_lt {n = whole_part p} {m = 4096} (omega (arith, n, few))))

-- and so is that of a quarter wave
pub point-near : (wave : List ℕ) (p : Float) → T (within zero64 steps p) → point_of wave p ≡ between_of wave (whole_part p % 4096) (p ⊖ float (pos (whole_part p)))
point-near wave p h = go (eqb (whole_part p) 4096) refl
  where
    go : (t : Bool) → eqb (whole_part p) 4096 ≡ t → point_of wave p ≡ between_of wave (whole_part p % 4096) (p ⊖ float (pos (whole_part p)))
    go true e = let l = eqb-true (whole_part p) 4096 e in point-last wave p l ∙ rw (none_left p h l, l) refl
    go false e =
        let n = eqb-false (whole_part p) 4096 e in
        let few = whole-at_most p h in
        point_at wave p (whole_part p) refl n ∙ ap (λ (i : ℕ). between_of wave i (p ⊖ float (pos (whole_part p)))) (sym (mod-eq_of_lt {n = whole_part p} {m = 4096} (omega (arith, n, few))))

-- ---- b at a point is a at the next: within a quadrant, and over its end, where T[0] is 0
next-within : (q j : ℕ) → start_of quarter q (j + 1) ≡ end_of quarter q j
unfolding start_of end_of
next-within zero j = refl
next-within (suc zero) j = ap (λ (n : ℕ). pos (entry_of n)) (omega arith)
next-within (suc (suc q)) j = ap neg_ℤ (next-within q j)

next-over : (q : ℕ) → start_of quarter (suc q) 0 ≡ end_of quarter q 1023
unfolding start_of end_of
next-over zero = refl
next-over (suc zero) = rw entry_0 refl
next-over (suc (suc q)) = ap neg_ℤ (next-over q)

next-is : (i : ℕ) → level_of (i + 1) ≡ float (end_of quarter (i / 1024) (i % 1024))
next-is i =
    let b : i % 1024 < 1024 = omega arith in
    ⊎_elim (λ e. at-is (i + 1) (suc (i / 1024)) 0 (omega arith) (omega arith) ∙ rw e (ap float (next-over (i / 1024))))
    (λ l. at-is (i + 1) (i / 1024) (i % 1024 + 1) (omega arith) (omega arith) ∙ ap float (next-within (i / 1024) (i % 1024)))
    (eq-or-lt_of_le (le_of_suc-le-suc b))

-- ---- of the whole wave
line-is : (i : ℕ) (f : Float) → i < 4096 → whole_line whole_wave i f ≡ between_of quarter i f
line-is i f h = rw (level-at i 4097 (omega arith), level-at (i + 1) 4097 (omega arith), next-is i) refl

point-is : (p : Float) → whole_part p ≤ 4096 → whole_point_of whole_wave p ≡ point_of quarter p
point-is p h = go (eqb (whole_part p) 4096) refl
  where
    go : (t : Bool) → eqb (whole_part p) 4096 ≡ t → whole_point_of whole_wave p ≡ point_of quarter p
    go true e = let l = eqb-true (whole_part p) 4096 e in whole-last whole_wave p l ∙ line-is 0 zero64 (lit< tt) ∙ sym (point-last quarter p l)
    go false e =
        let n = eqb-false (whole_part p) 4096 e in
        whole-at whole_wave p (whole_part p) refl n ∙ line-is (whole_part p) _ (omega (arith, n)) ∙ sym (point_at quarter p (whole_part p) refl n)

pub whole_long : length whole_wave ≡ 4097
unfolding levels
whole_long = listed-length level_of 4097

-- it is the sine, of every float
pub whole_is : (u : Float) → whole_reading whole_wave u ≡ reading_of u
whole_is u = go (within zero64 one u) refl
  where
    go : (t : Bool) → within zero64 one u ≡ t → whole_reading whole_wave u ≡ reading_of u
    go true e = whole-inside whole_wave u whole_long e ∙ point-is (u ⊗ steps) (whole-at_most (u ⊗ steps) (points_in u (subst T (sym e) tt))) ∙ sym (reading-inside quarter u e)
    go false e = whole-outside whole_wave u e ∙ sym (reading-outside quarter u e)
