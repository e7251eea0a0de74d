-- Notes struck and joined. 02, R-9: "A wind player wants a new key, pressed while another sounds, to change pitch and
-- leave the envelope running. A setting chooses joined or struck; struck is today's rule."
-- The laws of proofs/Joined.antt and the claim `JoinedNotes` of the crate `demands` use these definitions. Definitions
-- only.
use Rattle.std.specs.Prelude.{◌≡◌, Bool, true, false, cond, List, [], ◌∷◌, ◌++◌, ℕ, zero, suc, eqb, Some}
use Rattle.pitch.specs.Pitch.{frequency_of}
use Rattle.voice.specs.Keys.{pressed_of}
use Rattle.voice.specs.Voice.{velocity_of}
use Rattle.voice.specs.declared.keys.Keys.{Keys}
use Rattle.envelope.specs.Stages.{triggered_of}
use Rattle.envelope.specs.declared.EnvelopeStage.{EnvelopeStage}
use Rattle.envelope.specs.declared.EnvelopeStage.TheVariants.{Idle, Attack, Decay, Sustain, Release}
use Rattle.score.specs.Record.{position_at, record_at}
use Rattle.state.specs.declared.Keying.{Keying}
use Rattle.state.specs.declared.Settings.{Settings}
use Rattle.state.specs.declared.State.{State}
use Rattle.state.specs.declared.Event.{Event}
use Rattle.state.specs.State.{counted, event_of, act_of}

-- 01's rule for an on, "voice and envelope `note_on`", field by field. No setting changes it
abbrev pub always_triggered : State → ℕ → ℕ → State
always_triggered v note velocity =
    record {
      phase = v.phase;
      envelope = triggered_of v.envelope;
      frequency = frequency_of note;
      velocity = velocity_of velocity;
      keys = pressed_of v.keys note velocity;
      acted = counted v.acted;
      lfo = v.lfo;
    }

-- the stages from a trigger to its release
abbrev pub is_open : EnvelopeStage → Bool
is_open Idle = false
is_open Attack = true
is_open Decay = true
is_open Sustain = true
is_open Release = false

-- if a note is active, the envelope is open
abbrev pub OpenIfActive : State → Type 0
OpenIfActive v = (n : ℕ) → v.keys.active ≡ Some n → is_open v.envelope.stage ≡ true

-- g with another keying, v with other keys. Who adds a field to `Settings` adds it here, to `with_tremolo` of
-- ButLfo.antt and to `settings_of` of the crate `ffi`, which name all fields
abbrev pub with_keying : Settings → Keying → Settings
with_keying g k = record { rate = g.rate; waveform = g.waveform; adsr = g.adsr; lfo = g.lfo; keying = k }

abbrev pub with_keys : State → Keys → State
with_keys v keys = record { phase = v.phase; envelope = v.envelope; frequency = v.frequency; velocity = v.velocity; keys = keys; acted = v.acted; lfo = v.lfo }

-- events act one after the other
unfoldable pub act_all : Settings → State → List Event → State
act_all g v [] = v
act_all g v (e ∷ es) = act_all g (act_of g v e) es

-- the events of those of the first k records that are at n, in record order
unfoldable pub events_to : List ℕ → ℕ → ℕ → List Event
events_to s n zero = []
events_to s n (suc k) = events_to s n k ++ cond (eqb (position_at s k) n) (event_of (record_at s k) ∷ []) []
