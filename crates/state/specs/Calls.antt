-- The events as calls. 01, "Making sample n": "On: voice and envelope `note_on`. Off: voice `note_off`, and the
-- envelope's where it returned true. Reset: voice, envelope and phase to their fresh state."
-- The calls are those of `VoiceState` and `EnvelopeBlock`, as their crates define them; `calls_act` in
-- proofs/Calls.antt proves that an event does what they do. The voice's `note_off` says one of three (02, R-2), and
-- released is where the original's returned true. Under Joined an on skips the envelope's `note_on` if the voice had an
-- active note before the voice's `note_on` (02, R-9: "Demand 2's oracle skips the trigger in those cases").
-- Frequency and velocity are f32 in a voice and f64 in a state. Every f32 is also an f64, so they are compared as
-- numbers. Definitions only.
use Rattle.std.specs.Prelude.{Bool, false, not, cond, ◌≡◌, Ok}
use Rattle.floats.specs.Double.{zero64}
use Rattle.answers.specs.declared.Changed.{Changed}
use Rattle.voice.specs.Voice as voice
use Rattle.voice.specs.declared.VoiceState.{VoiceState}
use Rattle.envelope.specs.Calls as envelope
use Rattle.envelope.specs.declared.EnvelopeBlock.{EnvelopeBlock}
use Rattle.envelope.specs.declared.Processed.{Processed}
use Rattle.waveform.specs.Waveform.{radians}
use Rattle.waveform.specs.declared.Radians.{Radians}
use Rattle.state.specs.declared.Keying.{Keying}
use Rattle.state.specs.declared.Keying.TheVariants.{Struck, Joined}
use Rattle.state.specs.declared.Settings.{Settings}
use Rattle.state.specs.declared.State.{State}
use Rattle.state.specs.declared.Event.{Event}
use Rattle.state.specs.declared.Event.TheVariants as event

-- the voice w and the envelope block b have the fields of the state v
pub record Alike (v : State) (w : VoiceState) (b : EnvelopeBlock) : Type 0 where
  pub keys : v.keys ≡ w.keys
  pub frequency : v.frequency ≡ w.frequency
  pub velocity : v.velocity ≡ w.velocity
  pub envelope : v.envelope ≡ b.envelope

-- ---- what an event calls
abbrev pub voice_call : VoiceState → Event → Changed VoiceState
voice_call w (event.Strike note velocity) = voice.note_on_of w note velocity
voice_call w (event.Lift note) = let off = voice.note_off_of w note in record { answer = off.answer; state = off.voice }
voice_call w event.Reset = voice.reset_of w

-- the envelope's note_on is skipped: under Joined, where the voice that came has an active note
abbrev pub skips_on : Keying → VoiceState → Bool
skips_on Struck w = false
skips_on Joined w = voice.is_note w.keys.active

-- what a call of the envelope gives; or, where the call is skipped, `Ok 0` and the block as it came
abbrev pub called_if : Bool → EnvelopeBlock → Processed → Processed
called_if called b after = cond called after (record { answer = Ok 0; block = b })

-- the envelope's note_on unless it is skipped, and its note_off if the voice's note_off says released
abbrev pub envelope_call : Settings → VoiceState → EnvelopeBlock → Event → Processed
envelope_call g w b (event.Strike note velocity) = called_if (not (skips_on g.keying w)) b (envelope.note_on_of b)
envelope_call g w b (event.Lift note) = called_if (voice.is_released (voice.note_off_of w note).off) b (envelope.note_off_of b)
envelope_call g w b event.Reset = envelope.reset_of b

-- what becomes of a phase, the oscillator's or the LFO's: an on and an off leave it, a reset sets it to 0
abbrev pub phase_then : Radians → Event → Radians
phase_then p (event.Strike note velocity) = p
phase_then p (event.Lift note) = p
phase_then p event.Reset = radians zero64
