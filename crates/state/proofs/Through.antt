-- A property of both phases at every sample, if all other fields are within their limits, under accepted settings and
-- for an accepted score. The property must be true of 0, of a reduced phase, and of a phase that grew by at most 10.
-- It may depend on the position, and be another before a sample is begun than after. The sustain setting is taken to be
-- a value of an f64, as every f64 of a program is. Assumes nothing.
use Rattle.std.specs.Prelude.{Ok}
use mathlib.Core.Path.{◌≡◌}
use mathlib.Core.Bool.{true, false, ◌&&◌}
use mathlib.Core.List.{List}
use Prim.Native.Nat.{ℕ, suc, ◌+◌, ◌%◌}
use lib.Dec.{T, eqb}
use lib.Ieee.{Float, binary64, lt, le, fits}
use lib.Ieee.Fits.{and_l, and_r}
use Rattle.floats.specs.Range.{nonneg}
use Rattle.floats.specs.Double.{◌⊕◌, zero64}
use Rattle.domain.specs.Domain.{is_rate, is_pitch, highest_pitch}
use Rattle.envelope.specs.Limits.{ten, is_adsr}
use Rattle.envelope.proofs.Keeps.{step_keeps}
use Rattle.waveform.specs.Waveform.{is_waveform, remainder_of}
use Rattle.tremolo.specs.Tremolo.{is_lfo}
use Rattle.tremolo.proofs.Limits.{lfo-frequency}
use Rattle.score.specs.Record.{record_at}
use Rattle.score.specs.Score.{verdict_of}
use Rattle.state.specs.declared.Settings.{Settings}
use Rattle.state.specs.declared.State.{State}
use Rattle.state.specs.Settings.{settings_ok}
use Rattle.state.specs.State.{reduced_of, event_of, phase_step_of, lfo_step_of, advance_of}
use Rattle.state.specs.Heart.{begun, state_from}
use Rattle.state.proofs.Limits.{from-true, Kept, weaken, pitch_nonneg, accepted_events, act_keeps}
use Rattle.state.proofs.Lasting.{Lasting, state_lasts, sample_lasts}
use Rattle.state.proofs.Ladder.{pace_le, pace_nonneg}

-- ---- the steps
pub reduced_keeps : (P Q : Float → Type 0) (v : State) → ((x : Float) → P x → Q (remainder_of x)) → Kept P v → Kept Q (reduced_of v)
reduced_keeps P Q v f k =
    record { phase_in = f v.phase.0 k.phase_in; envelope_in_lem = k.envelope_in_lem; pitch_in = k.pitch_in; velocity_in_lem = k.velocity_in_lem; keys_in = k.keys_in; lfo_in = f v.lfo.0 k.lfo_in }

-- an advance
module _ (g : Settings) (ok : settings_ok g ≡ true) (w : T (fits binary64 g.adsr.sustain)) where
  settings_in : T (is_rate g.rate && is_waveform g.waveform && is_adsr g.adsr && is_lfo g.lfo)
  settings_in = from-true (settings_ok g) ok

  sounding_in : T (is_rate g.rate && is_waveform g.waveform && is_adsr g.adsr)
  sounding_in = and_l (is_rate g.rate && is_waveform g.waveform && is_adsr g.adsr) (is_lfo g.lfo) settings_in

  waved_in : T (is_rate g.rate && is_waveform g.waveform)
  waved_in = and_l (is_rate g.rate && is_waveform g.waveform) (is_adsr g.adsr) sounding_in

  pub rate_in : T (is_rate g.rate)
  rate_in = and_l (is_rate g.rate) (is_waveform g.waveform) waved_in

  pub waveform_in : T (is_waveform g.waveform)
  waveform_in = and_r (is_rate g.rate) (is_waveform g.waveform) waved_in

  pub adsr_in : T (is_adsr g.adsr)
  adsr_in = and_r (is_rate g.rate && is_waveform g.waveform) (is_adsr g.adsr) sounding_in

  pub lfo_in : T (is_lfo g.lfo)
  lfo_in = and_r (is_rate g.rate && is_waveform g.waveform && is_adsr g.adsr) (is_lfo g.lfo) settings_in

  -- what a sample adds to a phase
  pub phase-step_in : (v : State) → T (is_pitch binary64 v.frequency) → T (nonneg (phase_step_of g v)) × T (le (phase_step_of g v) ten)
  phase-step_in v k =
      let n = pitch_nonneg v.frequency k in
      let l = and_r (lt zero64 v.frequency) (le v.frequency (highest_pitch binary64)) k in
      (pace_nonneg v.frequency g.rate n l rate_in, pace_le v.frequency g.rate n l rate_in)

  pub lfo-step_in : T (nonneg (lfo_step_of g)) × T (le (lfo_step_of g) ten)
  lfo-step_in =
      let k = lfo-frequency g.lfo lfo_in in
      (pace_nonneg g.lfo.frequency g.rate k.0 k.1 rate_in, pace_le g.lfo.frequency g.rate k.0 k.1 rate_in)

  pub advance_keeps : (P Q : Float → Type 0) (v : State) → ((x step : Float) → T (nonneg step) → T (le step ten) → P x → Q (x ⊕ step)) → Kept P v → Kept Q (advance_of g v)
  unfolding advance_of
  advance_keeps P Q v f k =
      record {
        phase_in = let s = phase-step_in v k.pitch_in in f v.phase.0 (phase_step_of g v) s.0 s.1 k.phase_in;
        envelope_in_lem = step_keeps g.adsr g.rate v.envelope adsr_in w rate_in k.envelope_in_lem;
        pitch_in = k.pitch_in;
        velocity_in_lem = k.velocity_in_lem;
        keys_in = k.keys_in;
        lfo_in = f v.lfo.0 (lfo_step_of g) lfo-step_in.0 lfo-step_in.1 k.lfo_in;
      }

-- ---- consecutive samples
-- P before sample m is begun, Q after that
pub record Carried (P Q : ℕ → Float → Type 0) : Type 0 where
  pub zeroed : (m : ℕ) → Q m zero64
  pub reduced : (m : ℕ) (x : Float) → P m x → Q m (remainder_of x)
  pub left : (m : ℕ) (x : Float) → eqb (m % 64) 0 ≡ false → P m x → Q m x
  pub grown : (m : ℕ) (x step : Float) → T (nonneg step) → T (le step ten) → Q m x → P (suc m) (x ⊕ step)

module _ (P Q : ℕ → Float → Type 0) (c : Carried P Q) (g : Settings) (ok : settings_ok g ≡ true) (w : T (fits binary64 g.adsr.sustain)) (s : List ℕ) (m : ℕ) (a : verdict_of s ≡ Ok m) where
  carries : Lasting g s (λ (i : ℕ) (v : State). Kept (P i) v) (λ (i : ℕ) (v : State). Kept (Q i) v)
  carries =
      record {
        reduced = λ i v k. reduced_keeps (P i) (Q i) v (c.reduced i) k;
        left = λ i v e k. weaken (P i) (Q i) v (λ x. c.left i x e) k;
        acted = λ i j v h k. act_keeps g (Q i) (c.zeroed i) v k (event_of (record_at s j)) (accepted_events s m a j h);
        advanced = λ i v k. advance_keeps g ok w (Q i) (P (suc i)) v (c.grown i) k;
      }

  module _ (n : ℕ) (v : State) (k : Kept (P n) v) where
    pub run_keeps : (j : ℕ) → Kept (P (n + j)) (state_from g s n v j)
    run_keeps = state_lasts g s _ _ carries n v k

    pub run-begins : (j : ℕ) → Kept (Q (n + j)) (begun g s (n + j) (state_from g s n v j))
    run-begins = sample_lasts g s _ _ carries n v k
