-- The samples of a span are the values of the waveform's inner loop, times level, times velocity, times the tremolo's
-- factor; and the state after them is what the three passes leave. Assumes nothing.
use mathlib.Core.Path.{◌≡◌, refl, sym, ap, ◌∙◌}
use mathlib.Core.List.{List}
use Prim.Native.Nat.{ℕ, zero, suc, ◌<◌, ◌≤◌}
use native.Mathlib.Omega.{arith}
use lib.ListN.{length, get_or}
use lib.Ieee.{Float, nan, binary64}
use lib.Ieee.Fits.{mul-fits}
use Rattle.runs.specs.Runs.{run, listed}
use Rattle.runs.proofs.Listed.{listed-length, listed_at, listed_same}
use Rattle.floats.specs.Double.{one}
use Rattle.envelope.specs.declared.Adsr.{Adsr}
use Rattle.envelope.specs.declared.Envelope.{Envelope}
use Rattle.envelope.specs.Limits.{clamped_of, sample_time_of}
use Rattle.envelope.specs.Running.{envelope_from}
use Rattle.envelope.specs.Scaled.{scaled_to, Scaled}
use Rattle.waveform.specs.Waveform.{radians}
use Rattle.waveform.specs.Filled.{phase_from, samples_from, value_at, Filled, FilledBy}
use Rattle.waveform.specs.declared.Radians.{Radians}
use Rattle.waveform.proofs.Steps.{sample_at_lem}
use Rattle.filling.specs.Lent.{value_in}
use Rattle.filling.proofs.Lent.{filled_as}
use Rattle.state.specs.declared.Settings.{Settings}
use Rattle.state.specs.declared.State.{State}
use Rattle.state.specs.State.{with_phases, with_envelope, phase_step_of, lfo_step_of, dry_of, sample_of, advance_of}
use Rattle.spans.specs.Inner.{span_state, span_samples, IsWaveTable, SpanPlayed, AllFit, swayed_to, Swayed}
use Rattle.spans.proofs.Swaying.{filled-long, times_one-is}

-- the two inner loops keep the length of a part
pub sounding_long : (value : Float → Float) (p step scale : Float) (k : Adsr) (t : Float) (d : Envelope) (velocity : Float) (ws xs ys : List Float) (r : Radians) (e : Envelope) → FilledBy value p step scale ws xs r → Scaled k t d velocity xs ys e
    → length ys ≡ length ws
unfolding scaled_to
sounding_long value p step scale k t d velocity ws xs ys r e f h = ap length h.samples ∙ listed-length _ (length xs) ∙ filled-long value p step scale ws xs r f

module _ (g : Settings) (v : State) where
  -- the state after k samples, field by field
  pub advances_is : (k : ℕ)
      → span_state g v k
      ≡ with_envelope (with_phases v (phase_from (phase_step_of g v) v.phase.0 k) (phase_from (lfo_step_of g) v.lfo.0 k)) (envelope_from (clamped_of g.adsr) (sample_time_of g.rate) v.envelope k)
  unfolding span_state advance_of phase_from envelope_from run
  advances_is zero = refl
  advances_is (suc k) = rw (advances_is k) refl

  -- the values that the waveform's inner loop writes
  abbrev values : ℕ → List Float
  values n = samples_from g.waveform (phase_step_of g v) one v.phase.0 n

  -- the samples without tremolo
  dry_samples : ℕ → List Float
  dry_samples k = listed (λ (i : ℕ). dry_of g (span_state g v i)) k

  -- the first k of n values, scaled, are the first k samples without tremolo
  scaled-is : (n k : ℕ) → k ≤ n → scaled_to (clamped_of g.adsr) (sample_time_of g.rate) v.envelope v.velocity (values n) k ≡ dry_samples k
  unfolding scaled_to dry_samples dry_of envelope_from run
  scaled-is n k h =
      listed_same _ _ k
      (λ i l. rw (advances_is i, sample_at_lem (value_at g.waveform (phase_step_of g v)) (phase_step_of g v) one v.phase.0 i n (omega arith), times_one-is g.waveform (phase_step_of g v) (phase_from (phase_step_of g v) v.phase.0 i)) refl)

  -- a sample without tremolo is a product, so an f64
  dry-at : (n i : ℕ) → i < n → get_or (dry_samples n) i nan ≡ dry_of g (span_state g v i)
  unfolding dry_samples
  dry-at n i l = listed_at _ n i nan l

  dry-length : (n : ℕ) → length (dry_samples n) ≡ n
  unfolding dry_samples
  dry-length = listed-length _

  dry-fits : (n : ℕ) → AllFit (dry_samples n)
  unfolding dry_of
  dry-fits n i l = rw (dry-at n i (rw (dry-length n) at l)) (mul-fits binary64 _ _)

  -- swayed they are the samples
  swayed_is : (n : ℕ) → swayed_to g v.lfo.0 (dry_samples n) n ≡ span_samples g v n
  unfolding swayed_to span_samples sample_of
  swayed_is n = listed_same _ _ n (λ i l. rw (dry-at n i l, advances_is i) refl)

  -- the waveform's loop over what the part held, with a table lent, then the envelope's over what the first wrote, then
  -- the tremolo over that
  pub sounding : (W : List Float) (step : Radians) (k : Adsr) (t : Float) (ws xs ys zs : List Float) (r q : Radians) (e : Envelope) → IsWaveTable W → step ≡ radians (phase_step_of g v) → k ≡ clamped_of g.adsr → t ≡ sample_time_of g.rate
      → FilledBy (value_in W g.waveform step.0) v.phase.0 step.0 one ws xs r → Scaled k t v.envelope v.velocity xs ys e → Swayed g v.lfo.0 ys zs q
      → SpanPlayed g v ws zs (with_envelope (with_phases v r.0 q.0) e)
  sounding W step k t ws xs ys zs r q e serves es ek et given h s =
      let f : Filled g.waveform v.phase.0 (phase_step_of g v) one ws xs r = filled_as _ _ _ _ _ _ _ _ (serves g.waveform (phase_step_of g v)) (rw es at given) in
      let full : length xs ≡ length ws = filled-long _ _ _ _ _ _ _ f in
      let dry : ys ≡ dry_samples (length ws) = h.samples ∙ rw (ek, et, full, f.samples) (scaled-is (length ws) (length ws) (omega arith)) in
      let long : length ys ≡ length ws = ap length dry ∙ dry-length (length ws) in
      record {
        samples = s.samples (rw dry (dry-fits (length ws))) ∙ rw (long, dry) (swayed_is (length ws));
        state = rw (f.phase, s.phase, h.envelope, ek, et, full, long) (sym (advances_is (length ws)));
      }
