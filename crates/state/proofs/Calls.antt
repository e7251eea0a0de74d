-- An event does what 01's calls do. Take a voice and an envelope block that have the fields of the state: if the
-- voice's call and the envelope's are done, they leave the fields that the state has after the event.
-- The voice's `note_off` alone decides whether the envelope is released. An on and an off keep both phases, and a
-- reset sets them to 0.
-- On a state within its limits, whatever its phases, and with note and velocity up to 127 both calls are done; and a
-- fresh state has the fields of a new voice and a new block. Assumes nothing.
use Rattle.std.specs.Prelude.{Ok}
use mathlib.Core.Path.{◌≡◌, refl, sym, ap, ◌∙◌}
use mathlib.Core.Bool.{Bool, true, false, not, cond, ◌&&◌}
use mathlib.Core.List.{List}
use Prim.Native.Nat.{ℕ}
use lib.Ieee.{Float, binary32, binary64, of_bits}
use lib.Ieee.Fits.{and_i}
use borrow.Author.Tests.{le-leb}
use Rattle.floats.specs.Range.{zero_of, one_of}
use Rattle.floats.specs.Double.{zero64, one}
use Rattle.floats.proofs.Literals.{zero_of-is, one_of-is}
use Rattle.domain.specs.Domain.{is_midi, highest_pitch, is_pitch}
use Rattle.answers.specs.declared.Refusal.{Refusal}
use Rattle.answers.specs.declared.Refusal.TheVariants.{Argument}
use Rattle.answers.specs.Order.{unless}
use Rattle.answers.proofs.Order.{none-refused}
use Rattle.voice.specs.Keys.{pressed_of, lifted_of, is_keys}
use Rattle.voice.specs.Voice.{is_loud, is_voice, is_released, sounding_of, after_lift_of}
use Rattle.voice.specs.Voice as voice
use Rattle.voice.specs.declared.VoiceState.{VoiceState}
use Rattle.answers.specs.Changed.{changed_or}
use Rattle.answers.specs.declared.Changed.{Changed}
use Rattle.voice.specs.declared.keys.Keys.{Keys}
use Rattle.voice.specs.declared.keys.NoteOff.{NoteOff}
use Rattle.voice.specs.declared.keys.NoteOff.TheVariants.{Released, FellBack, NoChange}
use Rattle.voice.proofs.Lifting.{off-done}
use Rattle.envelope.specs.Limits.{is_envelope}
use Rattle.envelope.specs.Stages as stages
use Rattle.envelope.specs.Stages.{triggered_of, released_of}
use Rattle.envelope.specs.Calls.{changed_of}
use Rattle.envelope.specs.Calls as envelope
use Rattle.envelope.specs.declared.Envelope.{Envelope}
use Rattle.envelope.specs.declared.EnvelopeBlock.{EnvelopeBlock}
use Rattle.envelope.specs.declared.Processed.{Processed}
use Rattle.state.specs.declared.Keying.{Keying}
use Rattle.state.specs.declared.Keying.TheVariants.{Struck, Joined}
use Rattle.state.specs.declared.Settings.{Settings}
use Rattle.state.specs.declared.State.{State}
use Rattle.state.specs.declared.Event.{Event}
use Rattle.state.specs.declared.Event.TheVariants as event
use Rattle.state.specs.State.{concert, fresh_of, triggers_over, triggered_if, after_note_off, act_of}
use Rattle.state.specs.Calls.{Alike, voice_call, skips_on, called_if, envelope_call, phase_then}
use Rattle.state.proofs.Limits.{is_true, Kept, EventIn}

-- ---- what a call leaves that is done
voice_left : (refusals : List Refusal) (before after : VoiceState) → (changed_or refusals before after).answer ≡ Ok 0 → (changed_or refusals before after).state ≡ after
voice_left refusals before after d = rw (none-refused refusals _ _ (λ (r : Changed VoiceState). r.answer) 0 (λ why. refl) d) refl

block_left : (b : EnvelopeBlock) (e : Envelope) → (changed_of b e).answer ≡ Ok 0 → (changed_of b e).block.envelope ≡ e
block_left b e d = rw (none-refused (unless (is_envelope b.envelope) Argument) _ _ (λ (r : Processed). r.answer) 0 (λ why. refl) d) refl

-- ---- frequency and velocity as f32 and as f64
same_pitch : concert ≡ voice.concert
unfolding of_bits
same_pitch = refl

same-top : highest_pitch binary64 ≡ highest_pitch binary32
unfolding of_bits
same-top = refl

same-zero : zero64 ≡ zero_of binary32
same-zero = zero_of-is binary64 ∙ sym (zero_of-is binary32)

same-one : one ≡ one_of binary32
same-one = one_of-is binary64 ∙ sym (one_of-is binary32)

-- ---- a key is lifted: the envelope is released, or stays
left-envelope : (v : State) (keys : Keys) (off : NoteOff) → (after_note_off v keys off).envelope ≡ cond (is_released off) (released_of v.envelope) v.envelope
left-envelope v keys Released = refl
left-envelope v keys (FellBack note velocity) = refl
left-envelope v keys NoChange = refl

pub lift-releases : (g : Settings) (v : State) (note : ℕ) → (act_of g v (event.Lift note)).envelope ≡ cond (is_released (lifted_of v.keys note).off) (released_of v.envelope) v.envelope
unfolding act_of
lift-releases g v note = left-envelope v (lifted_of v.keys note).keys (lifted_of v.keys note).off

-- ---- the events
module _ (g : Settings) (v : State) (w : VoiceState) (b : EnvelopeBlock) (a : Alike v w b) where
  -- a key is lifted, and `keys` are left: block c is b, released if the voice is
  left_alike : (keys : Keys) (off : NoteOff) (c : EnvelopeBlock) → c.envelope ≡ cond (is_released off) (released_of b.envelope) b.envelope → Alike (after_note_off v keys off) (after_lift_of w keys off) c
  left_alike keys Released c e = record { keys = refl; frequency = a.frequency; velocity = a.velocity; envelope = ap released_of a.envelope ∙ sym e }
  left_alike keys (FellBack note velocity) c e = record { keys = refl; frequency = refl; velocity = refl; envelope = a.envelope ∙ sym e }
  left_alike keys NoChange c e = record { keys = refl; frequency = a.frequency; velocity = a.velocity; envelope = a.envelope ∙ sym e }

  -- the trigger is skipped where the voice's own rule has none
  skip_is : (k : Keying) → triggers_over k w.keys ≡ not (skips_on k w)
  skip_is Struck = refl
  skip_is Joined = refl

  on_block : (t : Bool) → (called_if t b (envelope.note_on_of b)).answer ≡ Ok 0 → (called_if t b (envelope.note_on_of b)).block.envelope ≡ triggered_if t b.envelope
  on_block true d = block_left b (triggered_of b.envelope) d
  on_block false d = refl

  off_block : (r : Bool) → (called_if r b (envelope.note_off_of b)).answer ≡ Ok 0
      → (called_if r b (envelope.note_off_of b)).block.envelope ≡ cond r (released_of b.envelope) b.envelope
  off_block true d = block_left b (released_of b.envelope) d
  off_block false d = refl

  -- voice and state lift the same keys
  lift-is : (note : ℕ) → act_of g v (event.Lift note) ≡ after_note_off v (lifted_of w.keys note).keys (lifted_of w.keys note).off
  unfolding act_of
  lift-is note = ap (λ (keys : Keys). after_note_off v (lifted_of keys note).keys (lifted_of keys note).off) a.keys

  lift_alike : (note : ℕ) → (voice_call w (event.Lift note)).answer ≡ Ok 0 → (envelope_call g w b (event.Lift note)).answer ≡ Ok 0
      → Alike (act_of g v (event.Lift note)) (voice_call w (event.Lift note)).state (envelope_call g w b (event.Lift note)).block
  lift_alike note d f =
      let l = lifted_of w.keys note in
      rw (lift-is note, off-done w note d) (left_alike l.keys l.off _ (off_block (is_released l.off) (rw (off-done w note d) at f)))

  -- if both calls are done, they leave what the event does
  pub calls_act : (e : Event) → (voice_call w e).answer ≡ Ok 0 → (envelope_call g w b e).answer ≡ Ok 0 → Alike (act_of g v e) (voice_call w e).state (envelope_call g w b e).block
  unfolding act_of
  calls_act (event.Strike note velocity) d f =
      let after = sounding_of (pressed_of w.keys note velocity) note velocity in
      let left = voice_left (unless (is_voice w && is_midi note && is_midi velocity) Argument) w after d in
      record {
        keys = rw (a.keys, left) refl;
        frequency = rw left refl;
        velocity = rw left refl;
        envelope = rw (a.keys, a.envelope, skip_is g.keying, on_block (not (skips_on g.keying w)) f) refl;
      }
  calls_act (event.Lift note) d f = lift_alike note d f
  calls_act event.Reset d f = let left = voice_left (unless (is_voice w) Argument) w voice.new_of d in record { keys = rw left refl; frequency = rw left same_pitch; velocity = rw left same-zero; envelope = rw (block_left b stages.fresh_of f) refl }

  -- the envelope is released exactly if the voice's note_off says released
  pub released_decides : (note : ℕ) → (voice.note_off_of w note).answer ≡ Ok 0 → (act_of g v (event.Lift note)).envelope ≡ cond (is_released (voice.note_off_of w note).off) (released_of v.envelope) v.envelope
  released_decides note d =
      let l = lifted_of w.keys note in
      rw (lift-is note, off-done w note d) (left-envelope v l.keys l.off)

-- the two phases
pub phase_then_lem : (g : Settings) (v : State) (e : Event) → ((act_of g v e).phase ≡ phase_then v.phase e) × ((act_of g v e).lfo ≡ phase_then v.lfo e)
unfolding act_of
phase_then_lem g v (event.Strike note velocity) = (refl, refl)
phase_then_lem g v (event.Lift note) = go (lifted_of v.keys note).keys (lifted_of v.keys note).off
  where
    go : (keys : Keys) (off : NoteOff) → ((after_note_off v keys off).phase ≡ v.phase) × ((after_note_off v keys off).lfo ≡ v.lfo)
    go keys Released = (refl, refl)
    go keys (FellBack note velocity) = (refl, refl)
    go keys NoChange = (refl, refl)
phase_then_lem g v event.Reset = (refl, refl)

-- a fresh state, a new voice and a new block
pub fresh_alike : (acted : ℕ) (attack decay sustain release : Float) → Alike (fresh_of acted) voice.new_of (envelope.new_of attack decay sustain release)
fresh_alike acted attack decay sustain release = record { keys = refl; frequency = same_pitch; velocity = same-zero; envelope = refl }

-- ---- both calls are done
module _ (g : Settings) (P : Float → Type 0) (v : State) (k : Kept P v) (w : VoiceState) (b : EnvelopeBlock) (a : Alike v w b) where
  voice_in : is_voice w ≡ true
  unfolding is_voice
  voice_in =
      is_true (is_voice w)
      (and_i (is_keys w.keys && is_loud w.velocity) (is_pitch binary32 w.frequency)
      (and_i (is_keys w.keys) (is_loud w.velocity) (rw a.keys at k.keys_in) (rw (a.velocity, same-zero, same-one) at k.velocity_in_lem))
      (rw (a.frequency, same-zero, same-top) at k.pitch_in))

  block_in : is_envelope b.envelope ≡ true
  block_in = is_true (is_envelope b.envelope) (rw a.envelope at k.envelope_in_lem)

  pub calls_done : (e : Event) → EventIn e → ((voice_call w e).answer ≡ Ok 0) × ((envelope_call g w b e).answer ≡ Ok 0)
  calls_done (event.Strike note velocity) h = (rw (voice_in, le-leb note 127 h.0, le-leb velocity 127 h.1) refl, go (not (skips_on g.keying w)))
    where
      go : (t : Bool) → (called_if t b (envelope.note_on_of b)).answer ≡ Ok 0
      go true = rw block_in refl
      go false = refl
  calls_done (event.Lift note) h = (rw (voice_in, le-leb note 127 h) refl, go (is_released (voice.note_off_of w note).off))
    where
      go : (r : Bool) → (called_if r b (envelope.note_off_of b)).answer ≡ Ok 0
      go true = rw block_in refl
      go false = refl
  calls_done event.Reset h = (rw voice_in refl, rw block_in refl)
