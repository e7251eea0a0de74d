-- What `note_off` says, as a claim. 02, R-2: "The front panel must tell "released" from "fell back" from "nothing
-- changed" .. The voice's note-off says one of three: released, fell back to a named note, or no change. Released
-- stands exactly where the Rust returned true."
-- 01, "Steps": "`note_off` drops every held entry of that note, then, only if it was active, falls back to the last
-- held, or lowers the gate and returns true".
-- The three say what becomes of the sound, and not of the list of held keys: where the lifted note did not sound, the
-- answer is no change, also if held keys of that note are dropped. The argument is in proofs/Lifting.antt. Definitions
-- only.
use Rattle.std.specs.Prelude.{◌≡◌, Bool, true, false, ◌&&◌, List, [], ◌∷◌, ◌++◌, ℕ, eqb, length, Err, Ok, Some, None}
use Rattle.domain.specs.Domain.{is_midi}
use Rattle.pitch.specs.Pitch.{frequency_of}
use Rattle.answers.specs.declared.Refusal.TheVariants.{Argument}
use Rattle.voice.specs.declared.keys.NoteOff.{NoteOff}
use Rattle.voice.specs.declared.keys.NoteOff.TheVariants.{Released, FellBack, NoChange}
use Rattle.voice.specs.declared.keys.Keys.{Keys}
use Rattle.voice.specs.declared.VoiceState.{VoiceState}
use Rattle.voice.specs.Keys.{Pair, held_of, keys_of, others, is_sounding}
use Rattle.voice.specs.Voice.{velocity_of, is_voice, is_released, note_off_of}

-- the last pair of the list has note m and velocity v
pub record EndsIn (ps : List Pair) (m v : ℕ) : Type 0 where
  pub earlier : List Pair
  pub ends : ps ≡ earlier ++ record { note = m; velocity = v } ∷ []

-- when each of the three is said as note n is lifted
abbrev pub OffWhen : Keys → ℕ → NoteOff → Type 0
OffWhen k n Released = (k.active ≡ Some n) × (others n (held_of k) ≡ [])
OffWhen k n (FellBack m v) = (k.active ≡ Some n) × EndsIn (others n (held_of k)) m v
OffWhen k n NoChange = k.active ≡ Some n → ⊥

-- what `note_off` of voice.rs returns, by 01's words: true if n was active and no other note is held
abbrev pub returns_true : Keys → ℕ → Bool
returns_true k n = is_sounding k.active n && eqb (length (others n (held_of k))) 0

-- ---- what each of the three leaves
-- voice t sounds as voice s does
pub record SameSound (s t : VoiceState) : Type 0 where
  pub active : t.keys.active ≡ s.keys.active
  pub gate : t.keys.gate ≡ s.keys.gate
  pub velocity : t.velocity ≡ s.velocity
  pub frequency : t.frequency ≡ s.frequency

-- no note is active in t, whose velocity and frequency are those of s
pub record Silenced (s t : VoiceState) : Type 0 where
  pub active : t.keys.active ≡ None
  pub gate : t.keys.gate ≡ false
  pub velocity : t.velocity ≡ s.velocity
  pub frequency : t.frequency ≡ s.frequency

-- another note than n is active in t: m, with its velocity v
pub record SoundsInstead (t : VoiceState) (n m v : ℕ) : Type 0 where
  pub midi : is_midi m && is_midi v ≡ true
  pub other : m ≡ n → ⊥
  pub active : t.keys.active ≡ Some m
  pub gate : t.keys.gate ≡ true
  pub velocity : t.velocity ≡ velocity_of v
  pub frequency : t.frequency ≡ frequency_of m

-- s is the voice before note n is lifted, t the voice after
abbrev pub OffLeaves : VoiceState → VoiceState → ℕ → NoteOff → Type 0
OffLeaves s t n Released = Silenced s t
OffLeaves s t n (FellBack m v) = SoundsInstead t n m v
OffLeaves s t n NoChange = SameSound s t

-- ---- the claim
-- what a call on a voice and a note within the limits answers and leaves
pub record Told (s : VoiceState) (n : ℕ) : Type 0 where
  pub answer : (note_off_of s n).answer ≡ Ok 0
  pub only_when : OffWhen s.keys n (note_off_of s n).off
  pub whenever : (off : NoteOff) → OffWhen s.keys n off → (note_off_of s n).off ≡ off
  -- the original's bool
  pub bool : is_released (note_off_of s n).off ≡ returns_true s.keys n
  pub leaves : OffLeaves s (note_off_of s n).voice n (note_off_of s n).off
  -- the held keys are those of the other notes, and the unused pairs are 0
  pub keys : let t = (note_off_of s n).voice in t.keys ≡ keys_of t.keys.active t.keys.gate (others n (held_of s.keys))

pub record OffTells : Type 0 where
  pub done : (s : VoiceState) (n : ℕ) → is_voice s && is_midi n ≡ true → Told s n
  pub refused : (s : VoiceState) (n : ℕ) → is_voice s && is_midi n ≡ false → note_off_of s n ≡ record { answer = Err Argument; off = NoChange; voice = s }
