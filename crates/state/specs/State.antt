-- The state, and the four steps of a sample. 01, "Making sample n": "phase is reduced by TAU. Then the records at n
-- act. On: voice and envelope `note_on`. Off: voice `note_off`, and the envelope's where it returned true. Reset:
-- voice, envelope and phase to their fresh state. Then the sample is oscillator value * envelope level * velocity, left
-- to right, and both advance. Frequency is always the voice's own (440 when fresh)."
-- 02, R-7: "The sample is multiplied last by (1 - depth/2 + lfo/2), where lfo is the ported block's scaled value. Its
-- phase is reduced at the same moments as the oscillator's, set to 0 by a reset record". An on and an off do not change
-- the LFO's phase.
-- 02, R-4: a note-on with velocity 0 "acts as a note-off of that note".
-- 02, R-9: "A setting chooses joined or struck; struck is today's rule. Joined triggers the envelope only if no note
-- was active just before. Note-off is as before"; "the active note decides, not the stack".
-- 02, R-13, takes the branch for a negative remainder out of the voice's reduction; the block calls keep it.
-- A reset does not set the number of records acted to 0: the reset is counted as one more. Definitions only.
use Rattle.std.specs.Prelude.{Bool, true, not, cond, ℕ, ◌+◌, ltb, eqb, Float}
use Rattle.std.specs.Float.{binary64}
use Rattle.std.specs.Float.Ieee.{of_bits}
use Rattle.floats.specs.Double.{◌⊕◌, ◌⊗◌, zero64}
use Rattle.pitch.specs.Pitch.{frequency_of}
use Rattle.voice.specs.Keys.{fresh_keys, pressed_of, lifted_of}
use Rattle.voice.specs.Voice.{velocity_of, is_note}
use Rattle.voice.specs.declared.keys.Keys.{Keys}
use Rattle.voice.specs.declared.keys.NoteOff.{NoteOff}
use Rattle.voice.specs.declared.keys.NoteOff.TheVariants.{Released, FellBack, NoChange}
use Rattle.envelope.specs.Limits.{clamped_of, sample_time_of}
use Rattle.envelope.specs.Stages as envelope
use Rattle.envelope.specs.Stages.{step_of, triggered_of, released_of}
use Rattle.envelope.specs.declared.Envelope.{Envelope}
use Rattle.waveform.specs.Waveform.{remainder_of, increment_of, radians}
use Rattle.waveform.specs.Filled.{value_at}
use Rattle.tremolo.specs.Tremolo.{lfo_at, factor_of}
use Rattle.score.specs.declared.Record.{Record}
use Rattle.score.specs.declared.Kind.{Kind}
use Rattle.score.specs.declared.Kind.TheVariants.{On, Off, Reset}
use Rattle.state.specs.declared.Keying.{Keying}
use Rattle.state.specs.declared.Keying.TheVariants.{Struck, Joined}
use Rattle.state.specs.declared.Settings.{Settings}
use Rattle.state.specs.declared.State.{State}
use Rattle.state.specs.declared.Event.{Event}
use Rattle.state.specs.declared.Event.TheVariants as event

-- 440 Hz
abbrev pub concert : Float
concert = of_bits binary64 0x407b_8000_0000_0000

-- one more record has acted, as far as a u64 counts; a score has at most 4,096 records
abbrev pub counted : ℕ → ℕ
counted acted = cond (ltb acted 18446744073709551615) (acted + 1) acted

-- the fresh state, with the number of records acted
abbrev pub fresh_of : ℕ → State
fresh_of acted = record { phase = radians zero64; envelope = envelope.fresh_of; frequency = concert; velocity = zero64; keys = fresh_keys; acted = acted; lfo = radians zero64 }

-- ---- the state with some fields changed. Who adds a field to `State` adds it to these definitions, to `fresh_of`, to
-- `with_acted` of ButActed.antt, to `with_lfo_phase` of ButLfo.antt, to `with_keys` and `always_triggered` of
-- Joined.antt, and to `state_of` of the crate `shelf`, which name all fields; and, where it has limits and words, to
-- `in_limits` of Limits.antt and to shelf's `entry_of` and `entry_words`

-- the phases of the oscillator and of the LFO
abbrev pub with_phases : State → Float → Float → State
with_phases v p q = record { phase = radians p; envelope = v.envelope; frequency = v.frequency; velocity = v.velocity; keys = v.keys; acted = v.acted; lfo = radians q }

abbrev pub with_envelope : State → Envelope → State
with_envelope v e = record { phase = v.phase; envelope = e; frequency = v.frequency; velocity = v.velocity; keys = v.keys; acted = v.acted; lfo = v.lfo }

-- the note sounds, with this velocity
abbrev pub with_note : State → ℕ → ℕ → State
with_note v note velocity = record { phase = v.phase; envelope = v.envelope; frequency = frequency_of note; velocity = velocity_of velocity; keys = v.keys; acted = v.acted; lfo = v.lfo }

-- these keys are held, and one more record has acted
abbrev pub acted_with : State → Keys → State
acted_with v keys = record { phase = v.phase; envelope = v.envelope; frequency = v.frequency; velocity = v.velocity; keys = keys; acted = counted v.acted; lfo = v.lfo }

-- ---- reduce
-- both phases modulo TAU; a remainder has the sign of its phase, and no TAU is added to it (02, R-13)
abbrev pub reduced_of : State → State
reduced_of v = with_phases v (remainder_of v.phase.0) (remainder_of v.lfo.0)

-- ---- act
-- what a record does: an on strikes a key (note, velocity), or lifts it where its velocity is 0 (02, R-4); an off lifts
-- a key (note); a reset resets. A lift releases the envelope only where the voice's note_off says released
abbrev pub event_for : Kind → ℕ → ℕ → Event
event_for On note velocity = cond (eqb velocity 0) (event.Lift note) (event.Strike note velocity)
event_for Off note velocity = event.Lift note
event_for Reset note velocity = event.Reset

abbrev pub event_of : Record → Event
event_of r = event_for r.kind r.note r.velocity

-- whether a key that goes down triggers the envelope, where `keys` are those just before (02, R-9): under Struck
-- always, under Joined only if no note was active. The gate, the held keys and the stage do not decide
abbrev pub triggers_over : Keying → Keys → Bool
triggers_over Struck keys = true
triggers_over Joined keys = not (is_note keys.active)

abbrev pub triggers : Settings → State → Bool
triggers g v = triggers_over g.keying v.keys

-- the envelope is triggered, or stays as it is
abbrev pub triggered_if : Bool → Envelope → Envelope
triggered_if t e = cond t (triggered_of e) e

-- a key goes down, under either keying: it is pressed, its note sounds with this velocity, and the envelope is
-- triggered where `triggers` says so
abbrev pub struck_of : Settings → State → ℕ → ℕ → State
struck_of g v note velocity =
    with_envelope (with_note (acted_with v (pressed_of v.keys note velocity)) note velocity) (triggered_if (triggers g v) v.envelope)

-- a key is lifted, and these keys are left: voice and envelope are released, or a held note sounds, or nothing else
-- changes
abbrev pub after_note_off : State → Keys → NoteOff → State
after_note_off v keys Released = with_envelope (acted_with v keys) (released_of v.envelope)
after_note_off v keys (FellBack note velocity) = with_note (acted_with v keys) note velocity
after_note_off v keys NoChange = acted_with v keys

unfoldable pub act_of : Settings → State → Event → State
act_of g v (event.Strike note velocity) = struck_of g v note velocity
act_of g v (event.Lift note) = let l = lifted_of v.keys note in after_note_off v l.keys l.off
act_of g v event.Reset = fresh_of (counted v.acted)

-- ---- the sample, and the advance
-- the envelope after its step at this sample, whose level the sample has
abbrev pub next_envelope_of : Settings → State → Envelope
next_envelope_of g v = step_of (clamped_of g.adsr) (sample_time_of g.rate) v.envelope

-- the growth of the oscillator's phase and of the LFO's, in radians a sample
abbrev pub phase_step_of : Settings → State → Float
phase_step_of g v = increment_of v.frequency g.rate

abbrev pub lfo_step_of : Settings → Float
lfo_step_of g = increment_of g.lfo.frequency g.rate

-- the sample without tremolo
unfoldable pub dry_of : Settings → State → Float
dry_of g v = value_at g.waveform (phase_step_of g v) v.phase.0 ⊗ (next_envelope_of g v).level ⊗ v.velocity

unfoldable pub sample_of : Settings → State → Float
unfolding dry_of
sample_of g v = dry_of g v ⊗ factor_of g.lfo.depth (lfo_at g.lfo (lfo_step_of g) v.lfo.0)

unfoldable pub advance_of : Settings → State → State
advance_of g v = with_envelope (with_phases v (v.phase.0 ⊕ phase_step_of g v) (v.lfo.0 ⊕ lfo_step_of g)) (next_envelope_of g v)
