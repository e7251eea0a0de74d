-- How far a phase grows between two reductions, the oscillator's or the LFO's. A sample adds at most 12,544 / 8,000 *
-- TAU radians, which is below 10, so j samples after a reduction the phase is at most `ladder j`, 10 + 10 j radians.
-- After 64 samples that is 650, below the limit of 1,000. Assumes nothing.
use mathlib.Core.Path.{◌≡◌, refl}
use mathlib.Core.Logic.{⊎_elim}
use mathlib.Core.Bool.{Bool, true, false, not}
use Prim.Native.Nat.{ℕ, zero, suc, ◌≤◌}
use native.Mathlib.Nat.{eq-or-lt_of_le, le_of_suc-le-suc}
use native.Mathlib.Nat as nat
use native.Mathlib.Omega.{arith}
use lib.IntN.{pos}
use lib.Dec.{T, leb, leb→le, lit<}
use lib.Ieee.{Float, binary64, of_bits, of_int, round, add, mul, div, lt, le}
use lib.Ieee.Bits.{of_bits-fits}
use lib.Ieee.Fits.{and_l, and_r}
use lib.Ieee.Order.{round_mono}
use lib.Ieee.Scale.{finite}
use lib.Ieee.Positive.{positive}
use Rattle.runs.specs.Runs.{run}
use Rattle.floats.specs.Range.{ge0, nonneg}
use Rattle.floats.specs.Double.{◌⊕◌, ◌⊗◌, ◌⊘◌, zero64}
use Rattle.floats.proofs.Literals.{zero_of-is}
use Rattle.floats.proofs.Order.{fle_trans, fle_refl, lt_not_le, not-lt-le, by_contra, ge0→le, nonneg→finite, under}
use Rattle.floats.proofs.Rounds.{ge0-round}
use Rattle.floats.proofs.Monotone.{add-mono, mul_mono, div_mono}
use Rattle.floats.proofs.Ranges.{add-ge0, mul-ge0, div-ge0, rem-ge0, rem-le, add_grows, ge0-positive}
use Rattle.domain.specs.Domain.{is_rate, thousand, highest_pitch}
use Rattle.envelope.specs.Limits.{ten}
use Rattle.waveform.specs.Waveform.{tau, remainder_of, reduce_of, increment_of}
use Rattle.waveform.specs.Filled.{phase_from}
use Rattle.waveform.proofs.Values.{Near, phase-near}

-- ---- the ladder
-- 10 + 10 j
abbrev pub ladder : ℕ → Float
ladder j = phase_from ten ten j

ten-nonneg : T (nonneg ten)
ten-nonneg = unfold of_bits in tt

rung_near : (j : ℕ) → Near (ladder j)
rung_near j =
    phase-near ten ten ten-nonneg (unfold of_bits in unfold le in tt)
    (record { p_fits = of_bits-fits binary64 0x4024_0000_0000_0000; p_nonneg = ten-nonneg; p_le = unfold of_bits in unfold le in tt }) j

pub rung_nonneg : (j : ℕ) → T (nonneg (ladder j))
rung_nonneg j = (rung_near j).p_nonneg

-- a later bound is not lower
pub rungs_rise : (i j : ℕ) → i ≤ j → T (le (ladder i) (ladder j))
unfolding run phase_from
rungs_rise i zero h = let z : i ≡ 0 = omega arith in rw z (unfold of_bits in unfold le in tt)
rungs_rise i (suc j) h =
    ⊎_elim (λ e. rw e (fle_refl (ladder (suc j)) (nonneg→finite (ladder (suc j)) (rung_nonneg (suc j)))))
    (λ l. fle_trans (ladder i) (ladder j) (ladder j ⊕ ten) (rungs_rise i j (le_of_suc-le-suc l)) (add_grows binary64 (ladder j) ten (rung_near j).p_fits (rung_nonneg j) ten-nonneg)) (eq-or-lt_of_le h)

-- the highest bound that is needed
last_below_lem : T (lt (ladder 64) thousand)
unfolding run phase_from of_bits add lt
last_below_lem = tt

-- x ≤ y < z
le-lt : (x y z : Float) → T (finite x) → T (finite z) → T (le x y) → T (lt y z) → T (lt x z)
le-lt x y z p q h l = by_contra (lt x z) (λ (n : T (not (lt x z))). lt_not_le y z l (fle_trans z x y (not-lt-le x z p q n) h))

-- a phase under a bound up to `ladder 64` is below 1,000
pub rung_below : (j : ℕ) (x : Float) → j ≤ 64 → T (finite x) → T (le x (ladder j)) → T (lt x thousand)
rung_below j x h k l = le-lt x (ladder 64) thousand k (unfold of_bits in tt) (fle_trans x (ladder j) (ladder 64) l (rungs_rise j 64 h)) last_below_lem

-- TAU and 0 are under every bound
tau_on : (j : ℕ) → T (le tau (ladder j))
unfolding run phase_from
tau_on j = fle_trans tau ten (ladder j) (unfold of_bits in unfold le in tt) (rungs_rise 0 j (omega arith))

pub zero_on : (j : ℕ) → T (le zero64 (ladder j))
unfolding run phase_from
zero_on j = fle_trans zero64 ten (ladder j) (unfold of_bits in unfold le in tt) (rungs_rise 0 j (omega arith))

-- ---- a reduction
tau-nonneg : T (nonneg tau)
tau-nonneg = unfold of_bits in tt

-- a phase that is not negative, an f64 or not, is reduced to at most TAU
module _ (p : Float) (h : T (nonneg p)) where
  rest_le : T (le (remainder_of p) tau)
  rest_le = rem-le binary64 p tau (of_bits-fits binary64 0x4019_21fb_5444_2d18) h (unfold of_bits in tt)

  rest_ge0 : T (ge0 (remainder_of p))
  rest_ge0 = rem-ge0 binary64 p tau h (unfold of_bits in tt)

  -- so the remainder is not below 0, and 01's reduction adds no cycle to it
  pub rest_not-below : lt (remainder_of p) zero64 ≡ false
  rest_not-below = no (lt (remainder_of p) zero64) (λ (t : T (lt (remainder_of p) zero64)). lt_not_le (remainder_of p) zero64 t (rw (zero_of-is binary64) (ge0→le (remainder_of p) rest_ge0)))
    where
      no : (b : Bool) → (T b → ⊥) → b ≡ false
      no true n = absurd (n tt)
      no false n = refl

  pub reduce-is_rest : reduce_of p ≡ remainder_of p
  unfolding reduce_of
  reduce-is_rest = rw rest_not-below refl

  pub reduced_on : (j : ℕ) → T (le (remainder_of p) (ladder j))
  reduced_on j = fle_trans (remainder_of p) tau (ladder j) rest_le (tau_on j)

  pub reduced-nonneg : T (nonneg (remainder_of p))
  reduced-nonneg = under (remainder_of p) tau rest_ge0 (nonneg→finite tau tau-nonneg) rest_le

-- ---- what a sample adds
abbrev slow : Float
slow = of_bits binary64 0x40bf_4000_0000_0000

-- 12,544 / 8,000 * TAU
abbrev steep : Float
steep = highest_pitch binary64 ⊘ slow ⊗ tau

-- a rate as a float is at least 8,000
rate_slow : (rate : ℕ) → T (is_rate rate) → T (le slow (of_int binary64 (pos rate)))
unfolding of_int is_rate
rate_slow rate h = rw whole (round_mono binary64 8000 1 rate 1 (lit< tt) (lit< tt) (nat.mul-le-mul_right 1 (leb→le 8000 rate (and_l (leb 8000 rate) (leb rate 192000) h))))
  where
    whole : slow ≡ round binary64 false 8000 1
    whole = unfold of_bits in unfold round in refl

rate_positive : (rate : ℕ) → T (is_rate rate) → T (positive (of_int binary64 (pos rate)))
unfolding of_int is_rate
rate_positive rate h =
    let x = round binary64 false rate 1 in
    let top : T (le x (round binary64 false 192000 1)) = round_mono binary64 rate 1 192000 1 (lit< tt) (lit< tt) (nat.mul-le-mul_right 1 (leb→le rate 192000 (and_r (leb 8000 rate) (leb rate 192000) h))) in
    ge0-positive slow x (unfold of_bits in tt) (rate_slow rate h) (nonneg→finite x (under x (round binary64 false 192000 1) (ge0-round binary64 rate 1) (unfold round in tt) top))

-- of a voice's frequency or an LFO's: from 0 to 12,544 Hz
module _ (frequency : Float) (rate : ℕ) (f : T (nonneg frequency)) (frequency-le : T (le frequency (highest_pitch binary64))) (r : T (is_rate rate)) where
  ratio_le : T (le (frequency ⊘ of_int binary64 (pos rate)) (highest_pitch binary64 ⊘ slow))
  ratio_le = div_mono binary64 frequency (highest_pitch binary64) (of_int binary64 (pos rate)) slow f (unfold of_bits in tt) (rate_positive rate r) (unfold of_bits in tt) frequency-le (rate_slow rate r)

  ratio_nonneg : T (nonneg (frequency ⊘ of_int binary64 (pos rate)))
  ratio_nonneg = under (frequency ⊘ of_int binary64 (pos rate)) (highest_pitch binary64 ⊘ slow) (div-ge0 binary64 frequency (of_int binary64 (pos rate)) f (rate_positive rate r)) (unfold of_bits in unfold div in tt) ratio_le

  pub pace_le : T (le (increment_of frequency rate) ten)
  unfolding increment_of
  pace_le =
      fle_trans (increment_of frequency rate) steep ten
      (mul_mono binary64 (frequency ⊘ of_int binary64 (pos rate)) (highest_pitch binary64 ⊘ slow) tau tau ratio_nonneg (unfold of_bits in unfold div in tt) tau-nonneg tau-nonneg ratio_le (fle_refl tau (nonneg→finite tau tau-nonneg)))
      (unfold of_bits in unfold div in unfold mul in unfold le in tt)

  pub pace_nonneg : T (nonneg (increment_of frequency rate))
  unfolding increment_of
  pace_nonneg = under (increment_of frequency rate) ten (mul-ge0 binary64 (frequency ⊘ of_int binary64 (pos rate)) tau ratio_nonneg tau-nonneg) (nonneg→finite ten ten-nonneg) pace_le

-- a sample leads from one bound to the next
module _ (j : ℕ) (p step : Float) (h : T (nonneg p)) (l : T (le p (ladder j))) (s : T (nonneg step)) (t : T (le step ten)) where
  pub next_rung : T (le (p ⊕ step) (ladder (suc j)))
  unfolding run phase_from
  next_rung = add-mono binary64 p (ladder j) step ten h (rung_nonneg j) s ten-nonneg l t

  pub next-nonneg : T (nonneg (p ⊕ step))
  next-nonneg = under (p ⊕ step) (ladder (suc j)) (add-ge0 binary64 p step h s) (nonneg→finite (ladder (suc j)) (rung_nonneg (suc j))) next_rung
