-- The voice of voice.rs, over the held keys. 01, "Domain of the ported calls": "Notes and velocities are 0 to 127";
-- "Given states: accumulator phase 0 to 1, increment finite; voice and envelope fields within the shelf's limits".
-- Those limits: "levels and velocity 0 to 1, frequency above 0 and at most 12,544", and those of the keys.
-- Anything else is refused with number 9; a refusal returns "any single value as +0 (a yes or no as false), hands back
-- state by value as it came". No samples are written, so the count of the answer is 0.
-- Frequency and velocity are f32, as in the original: the table of pitches and v / 127. A release keeps both; only a
-- reset makes them 440 and 0.
-- Every call that takes a state judges all of it, also a call that reads or replaces only some of its fields.
-- Definitions only.
use Rattle.std.specs.Prelude.{Bool, true, false, ◌&&◌, List, ℕ, pos, length, Float, Result, Err, Ok, Option, Some, None}
use Rattle.std.specs.Float.{binary32}
use Rattle.std.specs.Float.Ieee.{of_bits, of_int, div}
use Rattle.floats.specs.Range.{zero_of, one_of, within}
use Rattle.domain.specs.Domain.{is_midi, is_pitch}
use Rattle.pitch.specs.Pitch.{frequency_of}
use Rattle.answers.specs.declared.Changed.{Changed}
use Rattle.answers.specs.declared.Refusal.{Refusal}
use Rattle.answers.specs.declared.Refusal.TheVariants.{Argument}
use Rattle.answers.specs.Changed.{changed_or}
use Rattle.answers.specs.Order.{unless, first_of}
use Rattle.answers.specs.Value.{value_or}
use Rattle.voice.specs.declared.keys.NoteOff.{NoteOff}
use Rattle.voice.specs.declared.keys.NoteOff.TheVariants.{Released, FellBack, NoChange}
use Rattle.voice.specs.declared.keys.Keys.{Keys}
use Rattle.voice.specs.declared.VoiceState.{VoiceState}
use Rattle.voice.specs.declared.Off.{Off}
use Rattle.voice.specs.Keys.{held_of, fresh_keys, pressed_of, lifted_of, is_keys}

-- v / 127, rounded once; an f32, and so also an f64
unfoldable pub velocity_of : ℕ → Float
velocity_of v = div binary32 (of_int binary32 (pos v)) (of_bits binary32 0x42fe_0000)

-- 440 Hz, the pitch of A in ISO 16
abbrev pub concert : Float
concert = of_bits binary32 0x43dc_0000

-- ---- the limits
abbrev pub is_loud : Float → Bool
is_loud x = within (zero_of binary32) (one_of binary32) x

unfoldable pub is_voice : VoiceState → Bool
is_voice s = is_keys s.keys && is_loud s.velocity && is_pitch binary32 s.frequency

-- ---- what a lift answers: refused, it hands back the state as it came, and says no change
abbrev pub off_or : List Refusal → NoteOff → VoiceState → VoiceState → Off
off_or refusals off before after = first_of refusals (λ (why : Refusal). record { answer = Err why; off = NoChange; voice = before }) (record { answer = Ok 0; off = off; voice = after })

-- ---- what sounds
-- the keys, and note n sounds with velocity v
abbrev pub sounding_of : Keys → ℕ → ℕ → VoiceState
sounding_of keys n v = record { keys = keys; velocity = velocity_of v; frequency = frequency_of n }

-- after a key is lifted: only a fall back to another note changes velocity and frequency
abbrev pub after_lift_of : VoiceState → Keys → NoteOff → VoiceState
after_lift_of s keys Released = record { keys = keys; velocity = s.velocity; frequency = s.frequency }
after_lift_of s keys (FellBack n v) = sounding_of keys n v
after_lift_of s keys NoChange = record { keys = keys; velocity = s.velocity; frequency = s.frequency }

-- the three as values: the bool that the original returns, and the note that the voice fell back to, else 255
pub record Said : Type 0 where
  pub released : Bool
  pub note : ℕ

abbrev pub off_says : NoteOff → Said
off_says Released = record { released = true; note = 255 }
off_says (FellBack n v) = record { released = false; note = n }
off_says NoChange = record { released = false; note = 255 }

abbrev pub is_released : NoteOff → Bool
is_released off = (off_says off).released

-- a note sounds
abbrev pub is_note : Option ℕ → Bool
is_note None = false
is_note (Some n) = true

-- ---- the calls
abbrev pub new_of : VoiceState
new_of = record { keys = fresh_keys; velocity = zero_of binary32; frequency = concert }

abbrev pub note_on_of : VoiceState → ℕ → ℕ → Changed VoiceState
note_on_of s n v = changed_or (unless (is_voice s && is_midi n && is_midi v) Argument) s (sounding_of (pressed_of s.keys n v) n v)

abbrev pub note_off_of : VoiceState → ℕ → Off
note_off_of s n =
    let lift = lifted_of s.keys n in
    off_or (unless (is_voice s && is_midi n) Argument) lift.off s (after_lift_of s lift.keys lift.off)

abbrev pub reset_of : VoiceState → Changed VoiceState
reset_of s = changed_or (unless (is_voice s) Argument) s new_of

abbrev pub is_active_of : VoiceState → Result Bool Refusal
is_active_of s = value_or (unless (is_voice s) Argument) (is_note s.keys.active)

-- the length of the list of the held keys
abbrev pub held_note_count_of : VoiceState → Result ℕ Refusal
held_note_count_of s = value_or (unless (is_voice s) Argument) (length (held_of s.keys))
