-- A run that is done, for a highest frequency of at most 20,000 Hz: every sample is finite, and the phase after the run
-- is at least 0 and below TAU. The start phase is a value of an f64, as every f64 of the code is. Assumes nothing.
use Rattle.std.specs.Prelude.{Ok}
use mathlib.Core.Path.{◌≡◌, refl, subst}
use mathlib.Core.Bool.{Bool, false, ◌&&◌}
use mathlib.Core.List.{List, [], ◌++◌}
use Prim.Native.Nat.{ℕ, ◌≤◌, ◌<◌}
use native.Mathlib.Nat as nat
use lib.IntN.{pos}
use lib.Dec.{T, lit<, leb, leb→le}
use lib.ListN.{length, get_or}
use lib.Ieee.{Float, nan, binary64, of_bits, of_int, round, mul, div, lt, le, fits}
use lib.Ieee.Fits.{and_i, and_l, and_r}
use lib.Ieee.Order.{round_mono}
use lib.Ieee.Scale.{finite}
use Rattle.floats.specs.Range.{nonneg}
use Rattle.floats.specs.Double.{zero64}
use Rattle.floats.proofs.Literals.{zero_of-is}
use Rattle.floats.proofs.Order.{fle_trans, lt-le, le→ge0, under, nonneg→finite}
use Rattle.floats.proofs.Rounds.{ge0-round}
use Rattle.domain.specs.Domain.{is_rate, highest_tone, is_frequency, is_depth, thousand, is_radians}
use Rattle.answers.specs.declared.Refusal.TheVariants.{Setting, Argument}
use Rattle.answers.specs.Order.{unless}
use Rattle.answers.specs.Outcome.{Outcome}
use Rattle.answers.proofs.Order.{both-held, none-refused}
use Rattle.waveform.specs.declared.Radians.{Radians}
use Rattle.waveform.specs.Waveform.{tau, is_waveform, increment_of}
use Rattle.waveform.specs.Filled.{phase_from, value_at, samples_from}
use Rattle.waveform.proofs.Normal.{increment-le, increment-nonneg, step_in, reduce-nonneg, reduce-below}
use Rattle.waveform.proofs.Steps.{samples-length}
use Rattle.waveform.proofs.Values.{Near, far, sixteen, phase-near, samples-finite}
use Rattle.blocks.specs.Block.{is_setting, is_tone, phase_after, run_of}
use Rattle.blocks.specs.declared.Ran.{Ran}
use Rattle.blocks.specs.declared.Tone.{Tone}

-- a rate of at most 192,000 Hz is finite as a float
rate_finite : (rate : ℕ) → rate ≤ 192000 → T (finite (of_int binary64 (pos rate)))
unfolding of_int
rate_finite rate h =
    nonneg→finite (round binary64 false rate 1)
    (under (round binary64 false rate 1) (round binary64 false 192000 1) (ge0-round binary64 rate 1) tt (round_mono binary64 rate 1 192000 1 (lit< tt) (lit< tt) (nat.mul-le-mul_right 1 h)))

-- ---- an accepted tone
module _ (t : Tone) (top : Float) (rate : ℕ) (w : T (fits binary64 t.phase.0)) (m : T (le top highest_tone)) (s : T (is_setting rate t.waveform)) (a : T (is_tone t top)) where
  abbrev depth_ok : Bool
  depth_ok = is_depth t.depth

  abbrev frequency_ok : Bool
  frequency_ok = is_frequency top t.frequency

  abbrev step : Float
  step = increment_of t.frequency rate

  depth_in : T depth_ok
  unfolding is_tone
  depth_in = and_l depth_ok frequency_ok (and_l (depth_ok && frequency_ok) (is_radians t.phase.0) a)

  frequency_in : T (is_frequency highest_tone t.frequency)
  unfolding is_tone
  frequency_in =
      let h = and_r depth_ok frequency_ok (and_l (depth_ok && frequency_ok) (is_radians t.phase.0) a) in
      let f = t.frequency in
      and_i (le zero64 f) (le f highest_tone) (and_l (le zero64 f) (le f top) h) (fle_trans f top highest_tone (and_r (le zero64 f) (le f top) h) m)

  start_in : T (is_radians t.phase.0)
  unfolding is_tone
  start_in = and_r (depth_ok && frequency_ok) (is_radians t.phase.0) a

  start_near : Near t.phase.0
  start_near =
      let p = t.phase.0 in
      let l = lt-le p thousand (and_r (le zero64 p) (lt p thousand) start_in) in
      record {
        p_fits = w;
        p_nonneg = under p thousand (le→ge0 p (subst (λ (z : Float). T (le z p)) (zero_of-is binary64) (and_l (le zero64 p) (lt p thousand) start_in))) (unfold of_bits in tt) l;
        p_le = fle_trans p thousand far l (unfold of_bits in unfold le in tt);
      }

  rate_ok : T (is_rate rate)
  rate_ok = and_l (is_rate rate) (is_waveform t.waveform) s

  slowest : 8000 ≤ rate
  unfolding is_rate
  slowest = leb→le 8000 rate (and_l (leb 8000 rate) (leb rate 192000) rate_ok)

  rate_is-finite : T (finite (of_int binary64 (pos rate)))
  unfolding is_rate
  rate_is-finite = rate_finite rate (leb→le rate 192000 (and_r (leb 8000 rate) (leb rate 192000) rate_ok))

  step-nonneg : T (nonneg step)
  step-nonneg = increment-nonneg t.frequency rate frequency_in slowest rate_is-finite

  step-le : T (le step sixteen)
  step-le = fle_trans step _ sixteen (increment-le t.frequency rate frequency_in slowest rate_is-finite) (unfold of_bits in unfold div in unfold mul in unfold le in tt)

  tone_finite : (i n : ℕ) → i < n → T (finite (get_or (samples_from t.waveform step t.depth t.phase.0 n) i nan))
  tone_finite =
      samples-finite t.waveform step t.depth t.phase.0 (and_r (is_rate rate) (is_waveform t.waveform) s) step-nonneg step-le (step_in t.frequency rate frequency_in slowest rate_is-finite) depth_in start_near

  pub after_in_lem : (n : ℕ) → T (nonneg (phase_after step t.phase n).0) × T (lt (phase_after step t.phase n).0 tau)
  after_in_lem n =
      let near = phase-near step t.phase.0 step-nonneg step-le start_near n in
      let q = phase_from step t.phase.0 n in
      (reduce-nonneg q near.p_fits near.p_nonneg, reduce-below q near.p_fits near.p_nonneg)

-- ---- a run that is done
pub record Sound (xs : List Float) (p : Radians) : Type 0 where
  pub samples : (i : ℕ) → i < length xs → T (finite (get_or xs i nan))
  pub phase_from_lem : T (nonneg p.0)
  pub phase-below : T (lt p.0 tau)

module _ (t : Tone) (top : Float) (rate : ℕ) (xs : List Float) (w : T (fits binary64 t.phase.0)) (m : T (le top highest_tone)) where
  pub run_sound : (n : ℕ) → (run_of t top rate xs).result.answer ≡ Ok n → Sound (run_of t top rate xs).lent (run_of t top rate xs).result.phase
  unfolding run_of
  run_sound n d =
      let step = increment_of t.frequency rate in
      let usable = is_setting rate t.waveform in
      let sound = is_tone t top in
      let e : unless usable Setting ++ unless sound Argument ≡ [] = none-refused (unless usable Setting ++ unless sound Argument) _ _ (λ (o : Outcome Ran). o.result.answer) n (λ why. refl) d in
      let p = both-held usable sound Setting Argument e in
      rw e
      (record {
        samples = λ (i : ℕ) (l : i < length (samples_from t.waveform step t.depth t.phase.0 (length xs))).
            tone_finite t top rate w m p.0 p.1 i (length xs) (rw (samples-length (value_at t.waveform step) step t.depth t.phase.0 (length xs)) at l);
        phase_from_lem = (after_in_lem t top rate w m p.0 p.1 (length xs)).0;
        phase-below = (after_in_lem t top rate w m p.0 p.1 (length xs)).1;
      })
