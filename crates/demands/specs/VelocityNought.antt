-- A note-on with velocity 0 is a note-off, as a claim.
-- 02, R-4: "Most keyboards send a key's release as a note-on with velocity 0, and MIDI 1.0 says that it is one."; "From
-- now on such a record acts as a note-off of that note".
-- So how a release is written is not heard: accepted scores that are the same but for that (`SameButReleases`) are
-- rendered and continued alike, whatever the call is lent, and where one is refused, with 6, 7 or 10, so is the other.
-- They are not equal as scores: a re-render from one to the other starts at the section of the first record that is
-- written otherwise, and makes the same again.
-- "`VoiceState` itself keeps the Rust's behaviour": the voice's own `note_on` strikes with any velocity, and so does
-- the event `Strike`; no record gives that event with velocity 0. The arguments are in proofs/ButReleases.antt of the
-- crate `state` and in proofs/VelocityNought.antt. Definitions only.
use Rattle.std.specs.Prelude.{◌≡◌, true, List, ℕ, ◌≤◌, ◌<◌, T, Float, Ok}
use Rattle.std.specs.Float.{binary64}
use Rattle.std.specs.Float.Ieee.{fits}
use Rattle.sections.specs.Outcome.{Buffers}
use Rattle.score.specs.declared.Record.{Record}
use Rattle.score.specs.declared.Kind.TheVariants.{On, Off, Reset}
use Rattle.score.specs.Record.{count_of, record_at}
use Rattle.voice.specs.declared.VoiceState.{VoiceState}
use Rattle.voice.specs.Keys.{pressed_of}
use Rattle.voice.specs.Voice.{is_voice, sounding_of, note_on_of}
use Rattle.state.specs.declared.Settings.{Settings}
use Rattle.state.specs.declared.State.{State}
use Rattle.state.specs.declared.Event.TheVariants as event
use Rattle.state.specs.Settings.{settings_ok}
use Rattle.state.specs.State.{event_of, act_of}
use Rattle.state.specs.Heart.{state_from, samples_from}
use Rattle.state.specs.ButReleases.{IsNought, IsRelease, SameButReleases}
use Rattle.render.specs.Calls.{render_of, continue_of}
use Rattle.rerender.specs.Rerender.{rerender_of}
use Rattle.demands.specs.Demand3.{Taken, BuffersOf, left_in}

pub record VelocityNought : Type 0 where
  -- an off, and an on with velocity 0, lift the key of their note; what that calls is in `state`'s specs/Calls.antt
  pub lifts : (r : Record) → IsRelease r → event_of r ≡ event.Lift r.note
  -- so an on with velocity 0 and an off of that note, whatever the off's velocity, are the same event, and from every
  -- state leave the same state
  pub same_event : (r off : Record) → IsNought r → off.kind ≡ Off → r.note ≡ off.note → event_of r ≡ event_of off
  pub same-state : (g : Settings) (v : State) (r off : Record) → IsNought r → off.kind ≡ Off → r.note ≡ off.note → act_of g v (event_of r) ≡ act_of g v (event_of off)
  -- an on with any other velocity strikes; a reset, whose velocity is 0 too, resets
  pub others-strike : (r : Record) → r.kind ≡ On → 1 ≤ r.velocity → event_of r ≡ event.Strike r.note r.velocity
  pub resets : (r : Record) → r.kind ≡ Reset → event_of r ≡ event.Reset
  -- every strike of an accepted score has a velocity from 1 to 127
  pub strike_velocities : (s : List ℕ) → Taken s → (i : ℕ) → i < count_of s → (note velocity : ℕ) → event_of (record_at s i) ≡ event.Strike note velocity → (1 ≤ velocity) × (velocity ≤ 127)
  -- the voice's own call with velocity 0: note n sounds, with velocity 0, and its key is pressed
  pub voice_strikes : (s : VoiceState) (n : ℕ) → is_voice s ≡ true → n ≤ 127 → note_on_of s n 0 ≡ record { answer = Ok 0; state = sounding_of (pressed_of s.keys n 0) n 0 }
  -- the same states and samples are made, from every state and position
  pub states : (s t : List ℕ) → SameButReleases s t → (g : Settings) (n : ℕ) (v : State) (k : ℕ) → state_from g s n v k ≡ state_from g t n v k
  pub samples : (s t : List ℕ) → SameButReleases s t → (g : Settings) (n : ℕ) (v : State) (k : ℕ) → samples_from g s n v k ≡ samples_from g t n v k
  -- the calls leave the same, whatever they are lent
  pub rendered : (s t : List ℕ) → SameButReleases s t → Taken s → Taken t → (g : Settings) (b : Buffers) → render_of g s b ≡ render_of g t b
  pub continued : (s t : List ℕ) → SameButReleases s t → Taken s → Taken t → (g : Settings) (v : State) (p : ℕ) (part : List Float) → continue_of g s v p part ≡ continue_of g t v p part
  -- a re-render from s to t, over what a render of s left, leaves every sample, entry and section's summary as it was;
  -- `Demand3` says what the re-render answers
  pub re_rendered : (s t : List ℕ) → SameButReleases s t → Taken s → Taken t → (g : Settings) → settings_ok g ≡ true → T (fits binary64 g.adsr.sustain) → (n : ℕ) (r : BuffersOf n)
      → (rerender_of g s t (left_in g s r).left).left ≡ (left_in g s r).left
