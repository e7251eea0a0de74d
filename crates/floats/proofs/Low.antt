-- The floor of a number above 0 and below 2 by comparisons: 0 below 1, else 1. Assumes nothing.
use mathlib.Core.Path.{◌≡◌, refl, sym, ap, ◌∙◌, subst}
use mathlib.Core.Bool.{Bool, true, false, not, ◌&&◌}
use Prim.Native.Nat.{ℕ, ◌*◌, ◌/◌, ◌≤◌, ◌<◌}
use native.Mathlib.Nat as nat
use native.Mathlib.Omega.{arith}
use lib.Dec.{T}
use lib.Ieee.{Float, nan, inf, fin, binary64, of_bits, round, lt}
use lib.Ieee.Fits.{and_l, and_r}
use lib.Ieee.Scale.{finite}
use lib.Ieee.Positive.{num, den, den_pos, positive}
use Rattle.floats.specs.Floor.{floor_of}
use Rattle.floats.specs.Range.{plus_zero, nonneg}
use Rattle.floats.specs.Double.{zero64, one, two}
use Rattle.floats.proofs.Order.{lt-le, lt_not_le, not-lt-le, between-finite, le→cross, cross→le, positive-nonneg, above-positive}
use Rattle.floats.proofs.Literals.{zero_of-is}

-- the floor of a positive number is the whole part of its fraction
whole_part_lem : (x : Float) → T (positive x) → floor_of binary64 x ≡ round binary64 false (num x / den x) 1
unfolding floor_of
whole_part_lem nan p = absurd p
whole_part_lem (inf s) p = absurd p
whole_part_lem (fin true m e) p = absurd p
whole_part_lem (fin false m e) p = refl

zero64-is : zero64 ≡ round binary64 false 0 1
zero64-is = unfold of_bits round in refl

one-is : one ≡ round binary64 false 1 1
one-is = unfold of_bits round in refl

one-nonneg : T (nonneg one)
one-nonneg = unfold of_bits in tt

two-nonneg : T (nonneg two)
two-nonneg = unfold of_bits in tt

one-parts : (num one ≡ 1) × (den one ≡ 1)
one-parts = unfold of_bits in (refl, refl)

two-parts : (num two ≡ 2) × (den two ≡ 1)
two-parts = unfold of_bits in (refl, refl)

module _ (x : Float) (t : (lt zero64 x && lt x two) ≡ true) where
  above : T (lt plus_zero x)
  above = rw (zero_of-is binary64) at (and_l (lt zero64 x) (lt x two) (subst T (sym t) tt))

  below : T (lt x two)
  below = and_r (lt zero64 x) (lt x two) (subst T (sym t) tt)

  x_finite : T (finite x)
  x_finite = between-finite plus_zero x two tt (unfold of_bits in tt) (lt-le plus_zero x above) (lt-le x two below)

  x_positive : T (positive x)
  x_positive = above-positive plus_zero x tt x_finite above

  -- x < y, as fractions
  under : (y : Float) → T (nonneg y) → T (lt x y) → num x * den y < num y * den x
  under y q l = nat.lt_of_not-le (λ (g : num y * den x ≤ num x * den y). lt_not_le x y l (cross→le y x q (positive-nonneg x x_positive) g))

  pub below_one_lem : lt x one ≡ true → zero64 ≡ floor_of binary64 x
  below_one_lem l =
      zero64-is
      ∙ ap (λ (n : ℕ). round binary64 false n 1) (sym (nat.div-eq_of_lt (plain (num x) (den x) (rw (one-parts.0, one-parts.1) at (under one one-nonneg (subst T (sym l) tt))))))
      ∙ sym (whole_part_lem x x_positive)
    where
      plain : (a c : ℕ) → a * 1 < 1 * c → a < c
      plain a c h = omega arith

  pub from_one_lem : lt x one ≡ false → one ≡ floor_of binary64 x
  from_one_lem l =
      one-is
      ∙ ap (λ (n : ℕ). round binary64 false n 1)
      (sym (single (num x) (den x) (den_pos x) (rw (one-parts.0, one-parts.1) at (le→cross one x one-nonneg (positive-nonneg x x_positive) (not-lt-le x one x_finite (unfold of_bits in tt) (subst (λ (b : Bool). T (not b)) (sym l) tt)))) (rw (two-parts.0, two-parts.1) at (under two two-nonneg below))))
      ∙ sym (whole_part_lem x x_positive)
    where
      single : (a c : ℕ) → 0 < c → 1 * c ≤ a * 1 → a * 1 < 2 * c → a / c ≡ 1
      single a c C h l = nat.le_antisymm (nat.le_of_suc-le-suc ((nat.div-lt_iff_lt-mul C).1 (omega arith))) ((nat.le-div_iff_mul-le C).1 (omega arith))
