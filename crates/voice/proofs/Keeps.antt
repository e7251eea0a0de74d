-- Every call keeps the voice within the shelf's limits, so a state that comes from `new` is never refused. And what a
-- reset leaves. Assumes nothing.
use Rattle.std.specs.Prelude.{Ok}
use mathlib.Core.Path.{◌≡◌, refl}
use mathlib.Core.Bool.{true, ◌&&◌}
use mathlib.Core.List.{List, [], ◌∷◌}
use Prim.Native.Nat.{ℕ, ◌≤◌}
use native.Mathlib.Omega.{arith}
use lib.Dec.{T, leb→le}
use lib.Ieee.{binary32, of_bits, lt, le}
use lib.Ieee.Fits.{and_i, and_l, and_r}
use Rattle.answers.specs.declared.Changed.{Changed}
use Rattle.answers.specs.declared.Refusal.TheVariants.{Argument}
use Rattle.answers.specs.Order.{unless}
use Rattle.answers.proofs.Order.{held, first_keeps}
use Rattle.domain.specs.Domain.{is_midi, is_pitch}
use Rattle.pitch.specs.Pitch.{frequency_of}
use Rattle.pitch.proofs.Rules.{frequency_in}
use Rattle.voice.specs.Keys.{pressed_of, lifted_of, at_most, is_keys}
use Rattle.voice.specs.Voice.{is_loud, is_voice, sounding_of, after_lift_of, new_of, note_on_of, note_off_of, reset_of}
use Rattle.voice.specs.declared.keys.Keys.{Keys}
use Rattle.voice.specs.declared.keys.NoteOff.{NoteOff}
use Rattle.voice.specs.declared.keys.NoteOff.TheVariants.{Released, FellBack, NoChange}
use Rattle.voice.specs.declared.VoiceState.{VoiceState}
use Rattle.voice.specs.declared.Off.{Off}
use Rattle.voice.proofs.Actions.{BackRanged, pressed_keeps, lifted_keeps}
use Rattle.voice.proofs.Loudness.{velocity_in_lem}

-- ---- the test from its parts, and the parts from the test
voice_i : (s : VoiceState) → T (is_keys s.keys) → T (is_loud s.velocity) → T (is_pitch binary32 s.frequency) → T (is_voice s)
unfolding is_voice
voice_i s k v f = and_i (is_keys s.keys && is_loud s.velocity) (is_pitch binary32 s.frequency) (and_i (is_keys s.keys) (is_loud s.velocity) k v) f

module _ (s : VoiceState) (t : T (is_voice s)) where
  pub voice_keys : T (is_keys s.keys)
  unfolding is_voice
  voice_keys = and_l (is_keys s.keys) (is_loud s.velocity) (and_l (is_keys s.keys && is_loud s.velocity) (is_pitch binary32 s.frequency) t)

  pub voice_loud : T (is_loud s.velocity)
  unfolding is_voice
  voice_loud = and_r (is_keys s.keys) (is_loud s.velocity) (and_l (is_keys s.keys && is_loud s.velocity) (is_pitch binary32 s.frequency) t)

  pub voice_pitched : T (is_pitch binary32 s.frequency)
  unfolding is_voice
  voice_pitched = and_r (is_keys s.keys && is_loud s.velocity) (is_pitch binary32 s.frequency) t

-- ---- velocity and frequency of a note are within the limits
pitched : (n : ℕ) → n ≤ 127 → T (is_pitch binary32 (frequency_of n))
unfolding of_bits
pitched n h = frequency_in n (omega arith)

struck_in : (k : Keys) (n v : ℕ) → T (is_keys k) → n ≤ 127 → v ≤ 127 → T (is_voice (sounding_of k n v))
struck_in k n v t hn hv = voice_i (sounding_of k n v) t (velocity_in_lem v hv) (pitched n hn)

heard_in : (s : VoiceState) (k : Keys) (o : NoteOff) → T (is_voice s) → T (is_keys k) → BackRanged o → T (is_voice (after_lift_of s k o))
heard_in s k Released t h b = voice_i (after_lift_of s k Released) h (voice_loud s t) (voice_pitched s t)
heard_in s k (FellBack n v) t h b = struck_in k n v h b.0 b.1
heard_in s k NoChange t h b = voice_i (after_lift_of s k NoChange) h (voice_loud s t) (voice_pitched s t)

pub new_in : T (is_voice new_of)
unfolding is_voice is_keys at_most of_bits le lt
new_in = tt

-- ---- a refused call hands the state back, and a done one leaves a state within the limits
module _ (s : VoiceState) (t : T (is_voice s)) where
  pub note_on_keeps : (n v : ℕ) → T (is_voice (note_on_of s n v).state)
  note_on_keeps n v =
      let ok = is_voice s && is_midi n && is_midi v in
      first_keeps (unless ok Argument) _ _ (λ (r : Changed VoiceState). T (is_voice r.state)) (λ why. t)
      (λ e.
      let g : T ok = held ok Argument e in
      let hn : n ≤ 127 = leb→le n 127 (and_r (is_voice s) (is_midi n) (and_l (is_voice s && is_midi n) (is_midi v) g)) in
      let hv : v ≤ 127 = leb→le v 127 (and_r (is_voice s && is_midi n) (is_midi v) g) in
      struck_in (pressed_of s.keys n v) n v (pressed_keeps s.keys n v (voice_keys s t) hn hv) hn hv)

  pub note_off_keeps : (n : ℕ) → T (is_voice (note_off_of s n).voice)
  note_off_keeps n =
      let lift = lifted_of s.keys n in
      let kept = lifted_keeps s.keys n (voice_keys s t) in
      first_keeps (unless (is_voice s && is_midi n) Argument) _ _ (λ (r : Off). T (is_voice r.voice)) (λ why. t) (λ e. heard_in s lift.keys lift.off t kept.within kept.back)

  pub reset_keeps : T (is_voice (reset_of s).state)
  reset_keeps = first_keeps (unless (is_voice s) Argument) _ _ (λ (r : Changed VoiceState). T (is_voice r.state)) (λ why. t) (λ e. new_in)

-- ---- any calls, one after the other
pub data Call : Type 0 where
  on : ℕ → ℕ → Call
  off : ℕ → Call
  reset : Call

-- the state after a call
abbrev pub after : VoiceState → Call → VoiceState
after s (on n v) = (note_on_of s n v).state
after s (off n) = (note_off_of s n).voice
after s reset = (reset_of s).state

after_keeps : (s : VoiceState) (c : Call) → T (is_voice s) → T (is_voice (after s c))
after_keeps s (on n v) t = note_on_keeps s t n v
after_keeps s (off n) t = note_off_keeps s t n
after_keeps s reset t = reset_keeps s t

-- the state after the calls of a list, from s
unfoldable pub run : VoiceState → List Call → VoiceState
run s [] = s
run s (c ∷ cs) = run (after s c) cs

run_keeps : (s : VoiceState) (cs : List Call) → T (is_voice s) → T (is_voice (run s cs))
unfolding run
run_keeps s [] t = t
run_keeps s (c ∷ cs) t = run_keeps (after s c) cs (after_keeps s c t)

-- from `new`, after any calls, refused ones too, the state is within the limits
pub stays : (cs : List Call) → T (is_voice (run new_of cs))
stays cs = run_keeps new_of cs new_in

-- a reset makes the voice new
pub reset-is-new : (s : VoiceState) → is_voice s ≡ true → reset_of s ≡ record { answer = Ok 0; state = new_of }
reset-is-new s e = rw e refl
