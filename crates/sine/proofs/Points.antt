-- The reading of a table, case by case: u from 0 to 1 or not, and p = u * 4096 with the whole part 4096 or another.
-- Assumes nothing.
use mathlib.Core.Path.{◌≡◌, refl, sym, ap, ◌∙◌, subst}
use mathlib.Core.Bool.{Bool, true, false, cond}
use mathlib.Core.List.{List}
use Prim.Native.Nat.{ℕ}
use borrow.Author.Tests.{eq-eqb, ne_eqb}
use lib.IntN.{pos}
use lib.Dec.{T}
use lib.Ieee.{Float, binary64, of_bits, mul, le, round}
use lib.Ieee.Fits.{and_i, and_r}
use Rattle.floats.specs.Range.{plus_zero, plus_one, nonneg, within}
use Rattle.floats.specs.Double.{◌⊖◌, ◌⊗◌, zero64, one}
use Rattle.floats.proofs.Order.{fle_refl, ge0→le, nonneg→finite}
use Rattle.floats.proofs.Monotone.{mul_mono}
use Rattle.floats.proofs.Ranges.{within-nonneg, mul-ge0}
use Rattle.floats.proofs.Literals.{zero_of-is, one_of-is}
use Rattle.sine.specs.Sine.{steps, whole_part, float, between_of, point_of, reading_in}

-- u from 0 to 1
pub reading-inside : (wave : List ℕ) (u : Float) → within zero64 one u ≡ true → reading_in wave u ≡ point_of wave (u ⊗ steps)
unfolding reading_in
reading-inside wave u e = ap (λ (b : Bool). cond b (point_of wave (u ⊗ steps)) zero64) e

-- any other u
pub reading-outside : (wave : List ℕ) (u : Float) → within zero64 one u ≡ false → reading_in wave u ≡ zero64
unfolding reading_in
reading-outside wave u e = ap (λ (b : Bool). cond b (point_of wave (u ⊗ steps)) zero64) e

-- p = 4096
pub point-last : (wave : List ℕ) (p : Float) → whole_part p ≡ 4096 → point_of wave p ≡ between_of wave 0 zero64
unfolding point_of
point-last wave p e = ap (λ (b : Bool). cond b (between_of wave 0 zero64) (between_of wave (whole_part p) (p ⊖ float (pos (whole_part p))))) (eq-eqb (whole_part p) 4096 e)

-- any other p, whose whole part is i
pub point_at : (wave : List ℕ) (p : Float) (i : ℕ) → i ≡ whole_part p → (i ≡ 4096 → ⊥) → point_of wave p ≡ between_of wave i (p ⊖ float (pos i))
unfolding point_of
point_at wave p i e n =
    ap (λ (b : Bool). cond b (between_of wave 0 zero64) (between_of wave (whole_part p) (p ⊖ float (pos (whole_part p))))) (ne_eqb (whole_part p) 4096 (λ (z : whole_part p ≡ 4096). n (e ∙ z)))
    ∙ ap (λ (k : ℕ). between_of wave k (p ⊖ float (pos k))) (sym e)

-- 1 * 4096 is 4096
last-is : (plus_one ⊗ steps ≡ steps) × T (nonneg steps)
unfolding of_bits mul round
last-is = (refl, tt)

-- u from 0 to 1: u * 4096 from 0 to 4096
pub points_in : (u : Float) → T (within zero64 one u) → T (within zero64 steps (u ⊗ steps))
points_in u h =
    let k : T (within plus_zero plus_one u) = rw (zero_of-is, one_of-is) at h in
    let n : T (nonneg u) = within-nonneg plus_one u tt k in
    and_i (le zero64 (u ⊗ steps)) (le (u ⊗ steps) steps) (rw (zero_of-is binary64) (ge0→le (u ⊗ steps) (mul-ge0 binary64 u steps n last-is.1)))
    (subst (λ (z : Float). T (le (u ⊗ steps) z)) last-is.0
    (mul_mono binary64 u plus_one steps steps n tt last-is.1 last-is.1 (and_r (le plus_zero u) (le u plus_one) k) (fle_refl steps (nonneg→finite steps last-is.1))))
