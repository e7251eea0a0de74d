-- The two zeros of an f64, +0 and -0: a number that is neither above 0 nor below is one of them, and so is their
-- product with a finite number. Assumes nothing.
use mathlib.Core.Path.{◌≡◌, refl, sym, ◌∙◌}
use mathlib.Core.Logic.{◌⊎◌, inl, inr}
use mathlib.Core.Bool.{Bool, true, false}
use Prim.Native.Nat.{ℕ, ◌*◌, ◌≤◌, ◌<◌}
use native.Mathlib.Nat as nat
use native.Mathlib.Omega.{arith}
use lib.IntN.{pos}
use lib.Dec.{T}
use lib.Ieee.{Float, fin, binary64, of_bits, neg, round, le, fits, unlike}
use lib.Ieee.Fits.{and_r, round-fits}
use lib.Ieee.Scale.{finite}
use lib.Ieee.Positive.{num, den, den_pos}
use Rattle.floats.specs.Range.{plus_zero, nonneg, within}
use Rattle.floats.specs.Double.{◌⊗◌, zero64}
use Rattle.floats.proofs.Held.{zero-value}
use Rattle.floats.proofs.Literals.{zero_of-is}
use Rattle.floats.proofs.Operations.{mul_is}
use Rattle.floats.proofs.OneWay.{value-is-one, self-is}
use Rattle.floats.proofs.Order.{signed, nonneg→finite, le→cross}
use Rattle.floats.proofs.Ranges.{within-nonneg}

-- +0 or -0
abbrev pub Silent : Float → Type 0
Silent x = (x ≡ zero64) ⊎ (x ≡ neg zero64)

rounded-zero : (s : Bool) (c : ℕ) → 0 < c → round binary64 s 0 c ≡ fin s 0 (pos 0)
rounded-zero s c h = value-is-one binary64 (round binary64 s 0 c) (fin s 0 (pos 0)) s 0 c h (round-fits binary64 s 0 c) (unfold fits in tt) (zero-value binary64 s c h) (refl, nat.zero-mul c)

silent_of : (x : Float) (s : Bool) → x ≡ fin s 0 (pos 0) → Silent x
silent_of x true e = inr (e ∙ (unfold of_bits in unfold neg in refl))
silent_of x false e = inl (e ∙ (unfold of_bits in refl))

of_silent : (x : Float) → Silent x → (x ≡ fin false 0 (pos 0)) ⊎ (x ≡ fin true 0 (pos 0))
of_silent x (inl e) = inl (e ∙ (unfold of_bits in refl))
of_silent x (inr e) = inr (e ∙ (unfold of_bits in unfold neg in refl))

-- a value of an f64 that is neither above 0 nor below 0
pub zero_is : (x : Float) → T (fits binary64 x) → T (within zero64 zero64 x) → Silent x
zero_is x w h = silent_of x (signed x) (sym (self-is binary64 x w (nonneg→finite x not_negative)) ∙ rw nothing (rounded-zero (signed x) (den x) (den_pos x)))
  where
    inside : T (within plus_zero plus_zero x)
    inside = rw (zero_of-is binary64) at h

    not_negative : T (nonneg x)
    not_negative = within-nonneg plus_zero x tt inside

    nothing : num x ≡ 0
    nothing = go (num x) (den x) (le→cross x plus_zero not_negative tt (and_r (le plus_zero x) (le x plus_zero) inside))
      where
        go : (a u : ℕ) → a * 1 ≤ 0 * u → a ≡ 0
        go a u l = omega (arith, nat.zero-mul u)

-- a finite number times a zero, and a zero times a finite number
module _ (x : Float) (k : T (finite x)) where
  pub times_zero : (z : Float) → Silent z → Silent (x ⊗ z)
  times_zero z q = go (of_silent z q)
    where
      product : (s : Bool) → z ≡ fin s 0 (pos 0) → Silent (x ⊗ z)
      product s e =
          silent_of (x ⊗ z) (unlike (signed x) s)
          (rw e (mul_is binary64 x (fin s 0 (pos 0)) k tt ∙ rw (nat.mul-zero (num x), nat.mul-one (den x)) (rounded-zero (unlike (signed x) s) (den x) (den_pos x))))

      go : (z ≡ fin false 0 (pos 0)) ⊎ (z ≡ fin true 0 (pos 0)) → Silent (x ⊗ z)
      go (inl e) = product false e
      go (inr e) = product true e

  pub zero_times : (z : Float) → Silent z → Silent (z ⊗ x)
  zero_times z q = go (of_silent z q)
    where
      product : (s : Bool) → z ≡ fin s 0 (pos 0) → Silent (z ⊗ x)
      product s e =
          silent_of (z ⊗ x) (unlike s (signed x))
          (rw e (mul_is binary64 (fin s 0 (pos 0)) x tt k ∙ rw (nat.zero-mul (num x), nat.one-mul (den x)) (rounded-zero (unlike s (signed x)) (den x) (den_pos x))))

      go : (z ≡ fin false 0 (pos 0)) ⊎ (z ≡ fin true 0 (pos 0)) → Silent (z ⊗ x)
      go (inl e) = product false e
      go (inr e) = product true e
