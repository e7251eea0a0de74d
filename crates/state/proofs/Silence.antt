-- Samples of a state whose fields are within their limits, and whose phases are not negative, are finite; with velocity
-- 0 they are +0 or -0; and with depth 0 they are the samples without tremolo. 02, R-7: "With depth 0 the samples equal
-- the old ones as numbers"; here to the bit. A key struck with velocity 0 gives a state with velocity 0, as in the
-- Rust; no record strikes so (02, R-4). The floats of state and settings are taken to be values of an f64, as every f64
-- of a program is. Assumes nothing.
use mathlib.Core.Path.{◌≡◌, refl}
use mathlib.Core.Logic.{inl}
use mathlib.Core.Bool.{true, ◌&&◌}
use Prim.Native.Nat.{ℕ}
use lib.Dec.{T}
use lib.Ieee.{Float, binary64, of_bits, of_int, div, round, le, fits}
use lib.Ieee.Fits.{and_l, mul-fits}
use lib.Ieee.Scale.{finite}
use Rattle.floats.specs.Range.{nonneg, within}
use Rattle.floats.specs.Double.{◌⊗◌, zero64, one}
use Rattle.floats.proofs.Bounded.{Size, size-finite}
use Rattle.floats.proofs.Order.{fle_trans}
use Rattle.floats.proofs.Zeros.{Silent, times_zero, zero_times}
use Rattle.envelope.specs.Limits.{ten, eleven, is_envelope}
use Rattle.envelope.proofs.Keeps.{step_keeps}
use Rattle.voice.specs.Voice.{velocity_of}
use Rattle.waveform.specs.declared.Waveform.{Waveform}
use Rattle.waveform.specs.Waveform.{is_waveform}
use Rattle.waveform.specs.Filled.{value_at}
use Rattle.waveform.proofs.Values.{ceiling, ceiling-fits, value_at-size, scaled-size}
use Rattle.tremolo.specs.Tremolo.{sixteen, lfo_at, factor_of}
use Rattle.tremolo.proofs.Limits.{lfo_waveform, lfo_depth_lem}
use Rattle.tremolo.proofs.Sizes.{factor-size, product_finite}
use Rattle.tremolo.proofs.Flat.{step_in, flat_factor, flat_sample}
use Rattle.state.specs.declared.Settings.{Settings}
use Rattle.state.specs.declared.State.{State}
use Rattle.state.specs.State.{phase_step_of, lfo_step_of, next_envelope_of, dry_of, sample_of, struck_of}
use Rattle.state.specs.Settings.{settings_ok}
use Rattle.state.proofs.Limits.{Kept}
use Rattle.state.proofs.Fits.{Fitting}
use Rattle.state.proofs.Through.{rate_in, waveform_in, adsr_in, lfo_in, phase-step_in, lfo-step_in}

-- a value at a phase that is not negative, where a sample moves the phase by at most 10
wave_size : (w : Waveform) (step p : Float) → T (is_waveform w) → T (fits binary64 p) → T (nonneg p) → T (nonneg step) × T (le step ten) → Size ceiling (value_at w step p)
wave_size w step p c f n s = value_at-size w step p c f n (step_in step s.0 (fle_trans step ten sixteen s.1 (unfold of_bits in unfold le in tt)))

module _ (g : Settings) (ok : settings_ok g ≡ true) (w : T (fits binary64 g.adsr.sustain)) (v : State) (k : Kept (λ (x : Float). T (nonneg x)) v) (f : Fitting v) where
  level_in : T (within zero64 one (next_envelope_of g v).level)
  unfolding is_envelope
  level_in =
      let e = next_envelope_of g v in
      let level = within zero64 one e.level in
      let release = within zero64 one e.release_level in
      and_l level release (and_l (level && release) (within zero64 eleven e.stage_time) (step_keeps g.adsr g.rate v.envelope (adsr_in g ok w) w (rate_in g ok w) k.envelope_in_lem))

  -- the oscillator's value times the level
  abbrev loudness : Float
  loudness = value_at g.waveform (phase_step_of g v) v.phase.0 ⊗ (next_envelope_of g v).level

  loudness_size : Size ceiling loudness
  loudness_size =
      scaled-size ceiling _ _ ceiling-fits (wave_size g.waveform (phase_step_of g v) v.phase.0 (waveform_in g ok w) f.phase-fits k.phase_in (phase-step_in g ok w v k.pitch_in)) level_in

  dry-size : Size ceiling (dry_of g v)
  unfolding dry_of
  dry-size = scaled-size ceiling loudness v.velocity ceiling-fits loudness_size k.velocity_in_lem

  -- the LFO's value, and the factor
  abbrev swing : Float
  swing = value_at g.lfo.waveform (lfo_step_of g) v.lfo.0

  swing_size : Size ceiling swing
  swing_size = wave_size g.lfo.waveform (lfo_step_of g) v.lfo.0 (lfo_waveform g.lfo (lfo_in g ok w)) f.lfo-fits k.lfo_in (lfo-step_in g ok w)

  abbrev factor : Float
  factor = factor_of g.lfo.depth (lfo_at g.lfo (lfo_step_of g) v.lfo.0)

  sway-size : Size ceiling factor
  sway-size =
      let d = lfo_depth_lem g.lfo (lfo_in g ok w) in
      factor-size g.lfo.depth (swing ⊗ g.lfo.depth) d (scaled-size ceiling swing g.lfo.depth ceiling-fits swing_size d)

  pub sample-finite : T (finite (sample_of g v))
  unfolding sample_of
  sample-finite = product_finite (dry_of g v) factor dry-size sway-size

  pub plays_silent : v.velocity ≡ zero64 → Silent (sample_of g v)
  unfolding sample_of dry_of
  plays_silent e = zero_times factor (size-finite ceiling factor sway-size) (dry_of g v) (rw e (times_zero loudness (size-finite ceiling loudness loudness_size) zero64 (inl refl)))

  -- with depth 0 or -0
  pub sample-is-dry : Silent g.lfo.depth → sample_of g v ≡ dry_of g v
  unfolding sample_of dry_of
  sample-is-dry d = flat_sample (dry_of g v) factor (mul-fits binary64 _ _) (flat_factor g.lfo.depth d swing (size-finite ceiling swing swing_size))

-- the event of a key struck with velocity 0
pub struck_with_none : (g : Settings) (v : State) (note : ℕ) → (struck_of g v note 0).velocity ≡ zero64
unfolding velocity_of
struck_with_none g v note = unfold of_bits in unfold of_int in unfold round in unfold div in refl
