-- Radians give numbers in the domain of one sample. For every finite phase that is not negative, the normalised phase
-- lies from 0 to 1, and the reduced phase from 0 up to, not including, TAU. dt lies from 0 to 4, for a frequency up to
-- 20,000 Hz and a rate of 8,000 Hz or more.
-- Rounded operations are monotone, so an upper bound is the operation at the extreme arguments, computed. Assumes
-- nothing.
use mathlib.Core.Path.{◌≡◌, refl, subst}
use mathlib.Core.Bool.{Bool, true, false}
use Prim.Native.Nat.{ℕ, ◌≤◌}
use native.Mathlib.Nat as nat
use lib.IntN.{pos}
use lib.Dec.{T, lit<}
use lib.Ieee.{Float, binary64, of_bits, of_int, round, rem, mul, div, lt, le, fits}
use lib.Ieee.Fits.{and_i, and_r}
use lib.Ieee.Order.{round_mono}
use lib.Ieee.Scale.{finite}
use lib.Ieee.Positive.{positive}
use Rattle.floats.specs.Range.{plus_zero, nonneg, within}
use Rattle.floats.specs.Double.{◌⊗◌, ◌⊘◌, zero64, one, four}
use Rattle.floats.proofs.Literals.{zero_of-is}
use Rattle.floats.proofs.Order.{fle_trans, fle_refl, ge0→le, nonneg→ge0, nonneg→finite, under, lt_not_le}
use Rattle.floats.proofs.Monotone.{mul_mono, div_mono}
use Rattle.floats.proofs.Ranges.{mul-ge0, div-ge0, rem-ge0, rem-le, within-nonneg, ge0-positive}
use Rattle.floats.proofs.Remainder.{rem_lt}
use Rattle.waveform.specs.Waveform.{tau, inv_tau, normal_of, reduce_of, increment_of}

-- ---- the constants
tau-fits : T (fits binary64 tau)
tau-fits = unfold of_bits in unfold fits in tt

pub tau-positive : T (positive tau)
tau-positive = unfold of_bits in tt

pub tau-nonneg : T (nonneg tau)
tau-nonneg = unfold of_bits in tt

pub inv_nonneg : T (nonneg inv_tau)
inv_nonneg = unfold of_bits in tt

-- 0 ≤ x, with the code's literal 0.0 for `plus_zero`
from_zero : (x : Float) → T (le plus_zero x) → T (le zero64 x)
from_zero x h = rw (zero_of-is binary64) h

-- ---- the normalised phase
module _ (p : Float) (w : T (fits binary64 p)) (h : T (nonneg p)) where
  pub rem-nonneg : T (nonneg (rem binary64 p tau))
  rem-nonneg = under (rem binary64 p tau) tau (rem-ge0 binary64 p tau h tau-positive) (nonneg→finite tau tau-nonneg) (rem-le binary64 p tau tau-fits h tau-positive)

  pub normal_in : T (within zero64 one (normal_of p))
  normal_in =
      let r = rem binary64 p tau in
      and_i (le zero64 (normal_of p)) (le (normal_of p) one)
      (from_zero (normal_of p) (ge0→le (normal_of p) (mul-ge0 binary64 r inv_tau rem-nonneg inv_nonneg)))
      (fle_trans (normal_of p) (tau ⊗ inv_tau) one (mul_mono binary64 r tau inv_tau inv_tau rem-nonneg tau-nonneg inv_nonneg inv_nonneg (rem-le binary64 p tau tau-fits h tau-positive) (fle_refl inv_tau (nonneg→finite inv_tau inv_nonneg)))
      (unfold of_bits in unfold mul in unfold le in tt))

  -- a phase that is not negative is reduced to its remainder, which is below TAU
  pub reduce-is : reduce_of p ≡ rem binary64 p tau
  unfolding reduce_of
  reduce-is = rw (not-below (rem binary64 p tau) rem-nonneg) refl
    where
      not-below : (x : Float) → T (nonneg x) → lt x zero64 ≡ false
      not-below x k = by-no (lt x zero64) (λ (t : T (lt x zero64)). lt_not_le x zero64 t (from_zero x (ge0→le x (nonneg→ge0 x k))))
        where
          by-no : (b : Bool) → (T b → ⊥) → b ≡ false
          by-no true n = absurd (n tt)
          by-no false n = refl

  pub reduce-nonneg : T (nonneg (reduce_of p))
  reduce-nonneg = rw reduce-is rem-nonneg

  pub reduce-below : T (lt (reduce_of p) tau)
  reduce-below = rw reduce-is (rem_lt binary64 p tau w tau-fits h tau-positive)

-- ---- dt
abbrev pub highest : Float
highest = of_bits binary64 0x40d3_8800_0000_0000

abbrev lowest_rate : Float
lowest_rate = of_bits binary64 0x40bf_4000_0000_0000

-- a rate of 8,000 Hz or more is 8,000 or more as a float
rate_le : (rate : ℕ) → 8000 ≤ rate → T (le lowest_rate (of_int binary64 (pos rate)))
unfolding of_int
rate_le rate h = rw (whole) (round_mono binary64 8000 1 rate 1 (lit< tt) (lit< tt) (nat.mul-le-mul_right 1 h))
  where
    whole : lowest_rate ≡ round binary64 false 8000 1
    whole = unfold of_bits in unfold round in refl

module _ (frequency : Float) (rate : ℕ) (f : T (within zero64 highest frequency)) (r : 8000 ≤ rate) (k : T (finite (of_int binary64 (pos rate)))) where
  rate_positive : T (positive (of_int binary64 (pos rate)))
  rate_positive = ge0-positive lowest_rate (of_int binary64 (pos rate)) (unfold of_bits in tt) (rate_le rate r) k

  frequency-nonneg : T (nonneg frequency)
  frequency-nonneg = within-nonneg highest frequency (unfold of_bits in tt) (subst (λ (z : Float). T (within z highest frequency)) (zero_of-is binary64) f)

  -- frequency / rate is at most 2.5, so the increment is at most 2.5 * TAU, and dt at most 2.5 * TAU * INV_TAU
  ratio_le : T (le (frequency ⊘ of_int binary64 (pos rate)) (highest ⊘ lowest_rate))
  ratio_le = div_mono binary64 frequency highest (of_int binary64 (pos rate)) lowest_rate frequency-nonneg (unfold of_bits in tt) rate_positive (unfold of_bits in tt) (and_r (le zero64 frequency) (le frequency highest) f) (rate_le rate r)

  ratio_nonneg : T (nonneg (frequency ⊘ of_int binary64 (pos rate)))
  ratio_nonneg = under (frequency ⊘ of_int binary64 (pos rate)) (highest ⊘ lowest_rate) (div-ge0 binary64 frequency (of_int binary64 (pos rate)) frequency-nonneg rate_positive) (unfold of_bits in unfold div in tt) ratio_le

  pub increment-le : T (le (increment_of frequency rate) (highest ⊘ lowest_rate ⊗ tau))
  unfolding increment_of
  increment-le = mul_mono binary64 (frequency ⊘ of_int binary64 (pos rate)) (highest ⊘ lowest_rate) tau tau ratio_nonneg (unfold of_bits in unfold div in tt) tau-nonneg tau-nonneg ratio_le (fle_refl tau (nonneg→finite tau tau-nonneg))

  pub increment-nonneg : T (nonneg (increment_of frequency rate))
  unfolding increment_of
  increment-nonneg = under (increment_of frequency rate) (highest ⊘ lowest_rate ⊗ tau) (mul-ge0 binary64 (frequency ⊘ of_int binary64 (pos rate)) tau ratio_nonneg tau-nonneg) (unfold of_bits in unfold div in unfold mul in tt) increment-le

  pub step_in : T (within zero64 four (increment_of frequency rate ⊗ inv_tau))
  step_in =
      let i = increment_of frequency rate in
      and_i (le zero64 (i ⊗ inv_tau)) (le (i ⊗ inv_tau) four)
      (from_zero (i ⊗ inv_tau) (ge0→le (i ⊗ inv_tau) (mul-ge0 binary64 i inv_tau increment-nonneg inv_nonneg)))
      (fle_trans (i ⊗ inv_tau) (highest ⊘ lowest_rate ⊗ tau ⊗ inv_tau) four
      (mul_mono binary64 i (highest ⊘ lowest_rate ⊗ tau) inv_tau inv_tau increment-nonneg (unfold of_bits in unfold div in unfold mul in tt) inv_nonneg inv_nonneg increment-le (fle_refl inv_tau (nonneg→finite inv_tau inv_nonneg)))
      (unfold of_bits in unfold div in unfold mul in unfold le in tt))
