-- The floats of a state are values of an f64, and every step keeps that, for any score: what reading an entry back from
-- its bits needs. The sustain setting is taken to be a value of an f64, as every f64 of a program is. Assumes nothing.
use mathlib.Core.Bool.{Bool, true, false, cond}
use mathlib.Core.List.{List}
use Prim.Native.Nat.{ℕ, ◌+◌}
use lib.Dec.{T}
use lib.Ieee.{binary32, binary64, lt, fits}
use lib.Ieee.Fits.{cond-fits, add-fits, div-fits, rem-fits, fits_widens}
use lib.Ieee.Bits.{of_bits-fits}
use Rattle.floats.specs.Double.{zero64, one}
use Rattle.pitch.specs.Pitch.{frequency_of}
use Rattle.pitch.proofs.Rules.{frequency-fits}
use Rattle.voice.specs.Keys.{lifted_of}
use Rattle.voice.specs.Voice.{velocity_of}
use Rattle.voice.specs.declared.keys.Keys.{Keys}
use Rattle.voice.specs.declared.keys.NoteOff.{NoteOff}
use Rattle.voice.specs.declared.keys.NoteOff.TheVariants.{Released, FellBack, NoChange}
use Rattle.envelope.specs.Limits.{clamped_of, sample_time_of}
use Rattle.envelope.specs.declared.Adsr.{Adsr}
use Rattle.envelope.specs.declared.Envelope.{Envelope}
use Rattle.envelope.proofs.Holds.{Held, fresh_holds, triggered-holds, released-holds, step-holds}
use Rattle.waveform.specs.Waveform.{tau}
use Rattle.state.specs.declared.Settings.{Settings}
use Rattle.state.specs.declared.State.{State}
use Rattle.state.specs.declared.Event.{Event}
use Rattle.state.specs.declared.Event.TheVariants as event
use Rattle.state.specs.State.{fresh_of, reduced_of, triggers, triggered_if, after_note_off, act_of, phase_step_of, lfo_step_of, advance_of}
use Rattle.state.specs.Heart.{begun, state_from}
use Rattle.state.proofs.Lasting.{every-state, every-begun}

pub record Fitting (v : State) : Type 0 where
  pub phase-fits : T (fits binary64 v.phase.0)
  pub frequency-fits : T (fits binary64 v.frequency)
  pub velocity-fits : T (fits binary64 v.velocity)
  pub envelope-held : Held v.envelope
  pub lfo-fits : T (fits binary64 v.lfo.0)

-- ---- pitches, velocities and a clamped sustain setting
pitch_fits : (n : ℕ) → T (fits binary64 (frequency_of n))
pitch_fits n = fits_widens (frequency_of n) (frequency-fits n)

loudness_fits : (v : ℕ) → T (fits binary64 (velocity_of v))
unfolding velocity_of
loudness_fits v = fits_widens (velocity_of v) (div-fits binary32 _ _)

clamp-fits : (k : Adsr) → T (fits binary64 k.sustain) → T (fits binary64 (clamped_of k).sustain)
unfolding clamped_of
clamp-fits k w =
    cond-fits binary64 (lt k.sustain zero64) zero64 (cond (lt one k.sustain) one k.sustain) (of_bits-fits binary64 0)
    (cond-fits binary64 (lt one k.sustain) one k.sustain (of_bits-fits binary64 0x3ff0_0000_0000_0000) w)

-- ---- the steps
pub fresh-fits : (acted : ℕ) → Fitting (fresh_of acted)
fresh-fits acted = record { phase-fits = of_bits-fits binary64 0; frequency-fits = of_bits-fits binary64 0x407b_8000_0000_0000; velocity-fits = of_bits-fits binary64 0; envelope-held = fresh_holds; lfo-fits = of_bits-fits binary64 0 }

reduced-fits : (v : State) → Fitting v → Fitting (reduced_of v)
reduced-fits v f =
    record { phase-fits = rem-fits binary64 v.phase.0 tau f.phase-fits; frequency-fits = f.frequency-fits; velocity-fits = f.velocity-fits; envelope-held = f.envelope-held; lfo-fits = rem-fits binary64 v.lfo.0 tau f.lfo-fits }

lifted-fits : (v : State) (k : Keys) (off : NoteOff) → Fitting v → Fitting (after_note_off v k off)
lifted-fits v k Released f = record { phase-fits = f.phase-fits; frequency-fits = f.frequency-fits; velocity-fits = f.velocity-fits; envelope-held = released-holds v.envelope f.envelope-held; lfo-fits = f.lfo-fits }
lifted-fits v k (FellBack n l) f = record { phase-fits = f.phase-fits; frequency-fits = pitch_fits n; velocity-fits = loudness_fits l; envelope-held = f.envelope-held; lfo-fits = f.lfo-fits }
lifted-fits v k NoChange f = record { phase-fits = f.phase-fits; frequency-fits = f.frequency-fits; velocity-fits = f.velocity-fits; envelope-held = f.envelope-held; lfo-fits = f.lfo-fits }

triggered_if-holds : (t : Bool) (e : Envelope) → Held e → Held (triggered_if t e)
triggered_if-holds true e h = triggered-holds e h
triggered_if-holds false e h = h

act-fits : (g : Settings) (v : State) (e : Event) → Fitting v → Fitting (act_of g v e)
unfolding act_of
act-fits g v (event.Strike n l) f = record { phase-fits = f.phase-fits; frequency-fits = pitch_fits n; velocity-fits = loudness_fits l; envelope-held = triggered_if-holds (triggers g v) v.envelope f.envelope-held; lfo-fits = f.lfo-fits }
act-fits g v (event.Lift n) f = let l = lifted_of v.keys n in lifted-fits v l.keys l.off f
act-fits g v event.Reset f = fresh-fits _

advance-fits : (g : Settings) → T (fits binary64 g.adsr.sustain) → (v : State) → Fitting v → Fitting (advance_of g v)
unfolding advance_of
advance-fits g w v f =
    record {
      phase-fits = add-fits binary64 v.phase.0 (phase_step_of g v);
      frequency-fits = f.frequency-fits;
      velocity-fits = f.velocity-fits;
      envelope-held = step-holds (clamped_of g.adsr) (sample_time_of g.rate) v.envelope (clamp-fits g.adsr w) f.envelope-held;
      lfo-fits = add-fits binary64 v.lfo.0 (lfo_step_of g);
    }

-- ---- any number of samples, and the next one begun
pub state-fits : (g : Settings) (s : List ℕ) (n : ℕ) (v : State) → T (fits binary64 g.adsr.sustain) → Fitting v → (k : ℕ) → Fitting (state_from g s n v k)
state-fits g s n v w = every-state g s Fitting reduced-fits (act-fits g) (advance-fits g w) n v

pub begun-fits : (g : Settings) (s : List ℕ) (n : ℕ) (v : State) → T (fits binary64 g.adsr.sustain) → Fitting v → (k : ℕ) → Fitting (begun g s (n + k) (state_from g s n v k))
begun-fits g s n v w = every-begun g s Fitting reduced-fits (act-fits g) (advance-fits g w) n v
