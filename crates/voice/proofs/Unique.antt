-- Two outcomes that meet a public function's statement are equal: each statement is an equation with one definition of
-- specs/. Assumes nothing.
use Rattle.std.specs.Prelude.{Result}
use mathlib.Core.Path.{◌≡◌, sym, ◌∙◌}
use mathlib.Core.Bool.{Bool}
use Prim.Native.Nat.{ℕ}
use lib.ListN.{length}
use lib.Ieee.{Float}
use Rattle.answers.specs.declared.Changed.{Changed}
use Rattle.answers.specs.declared.Refusal.{Refusal}
use Rattle.voice.specs.Keys.{held_of, fresh_keys, pressed_of, lifted_of, is_keys}
use Rattle.voice.specs.Voice.{velocity_of, new_of, note_on_of, note_off_of, reset_of, is_note, is_active_of, held_note_count_of}
use Rattle.voice.specs.declared.keys.Keys.{Keys}
use Rattle.voice.specs.declared.keys.AfterLift.{AfterLift}
use Rattle.voice.specs.declared.VoiceState.{VoiceState}
use Rattle.voice.specs.declared.Off.{Off}

-- ---- the keys
pub fresh_keys_unique : (r t : Keys) → r ≡ fresh_keys → t ≡ fresh_keys → r ≡ t
fresh_keys_unique r t p q = p ∙ sym q

pub pressed_unique : (k : Keys) (n v : ℕ) (r t : Keys) → r ≡ pressed_of k n v → t ≡ pressed_of k n v → r ≡ t
pressed_unique k n v r t p q = p ∙ sym q

pub lifted_unique : (k : Keys) (n : ℕ) (r t : AfterLift) → r ≡ lifted_of k n → t ≡ lifted_of k n → r ≡ t
lifted_unique k n r t p q = p ∙ sym q

pub is_keys_unique : (k : Keys) (r t : Bool) → r ≡ is_keys k → t ≡ is_keys k → r ≡ t
is_keys_unique k r t p q = p ∙ sym q

pub held_count_unique : (k : Keys) (r t : ℕ) → r ≡ length (held_of k) → t ≡ length (held_of k) → r ≡ t
held_count_unique k r t p q = p ∙ sym q

-- ---- the voice
pub new_unique : (r t : VoiceState) → r ≡ new_of → t ≡ new_of → r ≡ t
new_unique r t p q = p ∙ sym q

pub note_on_unique : (s : VoiceState) (n v : ℕ) (r t : Changed VoiceState) → r ≡ note_on_of s n v → t ≡ note_on_of s n v → r ≡ t
note_on_unique s n v r t p q = p ∙ sym q

pub note_off_unique : (s : VoiceState) (n : ℕ) (r t : Off) → r ≡ note_off_of s n → t ≡ note_off_of s n → r ≡ t
note_off_unique s n r t p q = p ∙ sym q

pub reset_unique : (s : VoiceState) (r t : Changed VoiceState) → r ≡ reset_of s → t ≡ reset_of s → r ≡ t
reset_unique s r t p q = p ∙ sym q

pub is_active_unique : (s : VoiceState) (r t : Result Bool Refusal) → r ≡ is_active_of s → t ≡ is_active_of s → r ≡ t
is_active_unique s r t p q = p ∙ sym q

pub held_note_count_unique : (s : VoiceState) (r t : Result ℕ Refusal) → r ≡ held_note_count_of s → t ≡ held_note_count_of s → r ≡ t
held_note_count_unique s r t p q = p ∙ sym q

pub is_note_unique : (k : Keys) (r t : Bool) → r ≡ is_note k.active → t ≡ is_note k.active → r ≡ t
is_note_unique k r t p q = p ∙ sym q

-- `velocity_of` and `velocity_of_f64`
pub velocity_of_unique : (v : ℕ) (r t : Float) → r ≡ velocity_of v → t ≡ velocity_of v → r ≡ t
velocity_of_unique v r t p q = p ∙ sym q
