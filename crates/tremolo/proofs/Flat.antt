-- A depth of 0, of either sign, is no tremolo: the factor is 1 to the bit, and a sample times the factor is the sample.
-- 02, R-7: "With depth 0 the samples equal the old ones as numbers." Assumes nothing.
use mathlib.Core.Path.{◌≡◌, refl}
use mathlib.Core.Logic.{inl, inr}
use mathlib.Core.Bool.{Bool, ◌&&◌}
use Prim.Native.Nat.{ℕ}
use lib.Dec.{T}
use lib.Ieee.{Float, binary64, of_bits, add, sub, mul, div, neg, round, lt, le, fits}
use lib.Ieee.Fits.{and_i, and_l, and_r}
use lib.Ieee.Scale.{finite}
use Rattle.floats.specs.Range.{plus_zero, nonneg, within}
use Rattle.floats.specs.Double.{◌⊗◌, zero64, one, four}
use Rattle.floats.proofs.Bounded.{size-finite}
use Rattle.floats.proofs.Literals.{zero_of-is, one_of-is}
use Rattle.floats.proofs.OneWay.{times_one}
use Rattle.floats.proofs.Zeros.{Silent, zero_is, times_zero}
use Rattle.floats.proofs.Order.{fle_trans, fle_refl, lt-le, ge0→le}
use Rattle.floats.proofs.Monotone.{mul_mono}
use Rattle.floats.proofs.Ranges.{within-nonneg, mul-ge0}
use Rattle.domain.specs.Domain.{thousand, is_radians}
use Rattle.waveform.specs.Waveform.{is_waveform, inv_tau}
use Rattle.waveform.specs.Filled.{phase_from, value_at}
use Rattle.waveform.proofs.Values.{Near, far, phase-near, ceiling, value_at-size}
use Rattle.tremolo.specs.declared.Lfo.{Lfo}
use Rattle.tremolo.specs.Tremolo.{lfo_at, factor_of, sixteen, is_flat}

-- ---- the factor
module _ (depth : Float) (d : Silent depth) where
  from_zeros : (lfo : Float) → Silent depth → Silent lfo → factor_of depth lfo ≡ one
  from_zeros lfo (inl e) (inl q) = rw (e, q) (unfold of_bits in unfold div in unfold sub in unfold add in unfold round in refl)
  from_zeros lfo (inl e) (inr q) = rw (e, q) (unfold of_bits in unfold neg in unfold div in unfold sub in unfold add in unfold round in refl)
  from_zeros lfo (inr e) (inl q) = rw (e, q) (unfold of_bits in unfold neg in unfold div in unfold sub in unfold add in unfold round in refl)
  from_zeros lfo (inr e) (inr q) = rw (e, q) (unfold of_bits in unfold neg in unfold div in unfold sub in unfold add in unfold round in refl)

  -- the factor of a finite value is 1
  pub flat_factor : (value : Float) → T (finite value) → factor_of depth (value ⊗ depth) ≡ one
  flat_factor value k = from_zeros (value ⊗ depth) d (times_zero value k depth d)

-- a sample times 1 is the sample
pub flat_sample : (x factor : Float) → T (fits binary64 x) → factor ≡ one → x ⊗ factor ≡ x
flat_sample x factor w e = rw (e, one_of-is binary64) (times_one binary64 x w)

-- ---- the LFO's values at accepted phases
-- a step from 0 to 16 radians is at most 4 cycles
pub step_in : (step : Float) → T (nonneg step) → T (le step sixteen) → T (within zero64 four (step ⊗ inv_tau))
step_in step n l =
    and_i (le zero64 (step ⊗ inv_tau)) (le (step ⊗ inv_tau) four)
    (rw (zero_of-is binary64) (ge0→le (step ⊗ inv_tau) (mul-ge0 binary64 step inv_tau n (unfold of_bits in tt))))
    (fle_trans (step ⊗ inv_tau) (sixteen ⊗ inv_tau) four
    (mul_mono binary64 step sixteen inv_tau inv_tau n (unfold of_bits in tt) (unfold of_bits in tt) (unfold of_bits in tt) l (fle_refl inv_tau (unfold of_bits in tt)))
    (unfold of_bits in unfold mul in unfold le in tt))

-- where `is_flat` holds, the factor is 1 at this phase and at every later one
module _ (l : Lfo) (step p : Float) (w : T (fits binary64 l.depth)) (f : T (fits binary64 p)) (h : T (is_flat l step p)) where
  abbrev flat : Bool
  flat = within zero64 zero64 l.depth

  abbrev waved : Bool
  waved = is_waveform l.waveform

  abbrev stepped : Bool
  stepped = within zero64 sixteen step

  tests : T (flat && waved && stepped && is_radians p)
  unfolding is_flat
  tests = h

  first_tests : T (flat && waved && stepped)
  first_tests = and_l (flat && waved && stepped) (is_radians p) tests

  shaped : T waved
  shaped = and_r flat waved (and_l (flat && waved) stepped first_tests)

  step-inside : T (within plus_zero sixteen step)
  step-inside = rw (zero_of-is binary64) at (and_r (flat && waved) stepped first_tests)

  step-nonneg : T (nonneg step)
  step-nonneg = within-nonneg sixteen step (unfold of_bits in tt) step-inside

  step-le : T (le step sixteen)
  step-le = and_r (le plus_zero step) (le step sixteen) step-inside

  started : T (is_radians p)
  started = and_r (flat && waved && stepped) (is_radians p) tests

  start_le : T (le p thousand)
  start_le = lt-le p thousand (and_r (le zero64 p) (lt p thousand) started)

  start_near : Near p
  start_near =
      record {
        p_fits = f;
        p_nonneg = within-nonneg thousand p (unfold of_bits in tt) (rw (zero_of-is binary64) at (and_i (le zero64 p) (le p thousand) (and_l (le zero64 p) (lt p thousand) started) start_le));
        p_le = fle_trans p thousand far start_le (unfold of_bits in unfold le in tt);
      }

  pub flat_later : (k : ℕ) → factor_of l.depth (lfo_at l step (phase_from step p k)) ≡ one
  flat_later k =
      let near = phase-near step p step-nonneg step-le start_near k in
      flat_factor l.depth (zero_is l.depth w (and_l flat waved (and_l (flat && waved) stepped first_tests)))
      (value_at l.waveform step (phase_from step p k))
      (size-finite ceiling (value_at l.waveform step (phase_from step p k)) (value_at-size l.waveform step (phase_from step p k) shaped near.p_fits near.p_nonneg (step_in step step-nonneg step-le)))
