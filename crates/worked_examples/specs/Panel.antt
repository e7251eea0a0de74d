-- What a front panel is told as keys are lifted, by examples. 02, R-2: "The voice's note-off says one of three:
-- released, fell back to a named note, or no change."
-- (k), (l) and (m) are 01's worked examples. Definitions only.
use Rattle.std.specs.Prelude.{◌≡◌, true, false, List, [], ◌∷◌, ◌++◌, ℕ, replicate, Err, Ok}
use Rattle.std.specs.Float.{binary32}
use Rattle.floats.specs.Range.{zero_of}
use Rattle.answers.specs.Answer.{Answer}
use Rattle.answers.specs.declared.Refusal.TheVariants.{Argument}
use Rattle.voice.specs.Voice.{Said, off_says, new_of, note_off_of}
use Rattle.voice.specs.declared.VoiceState.{VoiceState}
use Rattle.worked_examples.specs.Examples.{from, strike_all, full, twice}

-- the three, as values beside the answer of a call that is done
abbrev pub says_released : Answer × Said
says_released = (Ok 0, record { released = true; note = 255 })

abbrev pub says_fell_back : ℕ → Answer × Said
says_fell_back n = (Ok 0, record { released = false; note = n })

abbrev pub says_no_change : Answer × Said
says_no_change = (Ok 0, record { released = false; note = 255 })

-- what the panel is told as each of these keys is lifted
abbrev pub told : VoiceState → List ℕ → List (Answer × Said)
told s [] = []
told s (n ∷ ns) = ((note_off_of s n).answer, off_says (note_off_of s n).off) ∷ told (note_off_of s n).voice ns

-- a new voice after these keys were struck
abbrev pub struck : List ℕ → VoiceState
struck ns = strike_all new_of ns

-- 60 and 64 held, 64 sounding, at a frequency of 0 Hz: outside the limits
abbrev pub outside : VoiceState
outside = record { keys = (struck (60 ∷ 64 ∷ [])).keys; velocity = zero_of binary32; frequency = zero_of binary32 }

pub record PanelExamples : Type 0 where
  -- (k) notes 40 to 55 on, 60 on; 60 off: 55 sounds
  pub example_k : told full (60 ∷ []) ≡ says_fell_back 55 ∷ []
  -- (l) instead 40 to 55 off: 60 sounds on, also when none is held; 60 off: released
  pub example_l : told full (from 40 16 ++ 60 ∷ []) ≡ replicate 16 says_no_change ++ says_released ∷ []
  -- (m) 60 on twice, off once: released
  pub example_m : told twice (60 ∷ []) ≡ says_released ∷ []
  -- 60 on, 64 on; 64 off, 60 off
  pub back_and_released : told (struck (60 ∷ 64 ∷ [])) (64 ∷ 60 ∷ []) ≡ says_fell_back 60 ∷ says_released ∷ []
  -- 60, 62, 60 on; 60 off: both entries of 60 are dropped, so the voice falls back to 62
  pub both_dropped : told (struck (60 ∷ 62 ∷ 60 ∷ [])) (60 ∷ []) ≡ says_fell_back 62 ∷ []
  -- a key that is not down, while another note sounds and while none does
  pub not-down : (told (struck (60 ∷ [])) (61 ∷ []) ≡ says_no_change ∷ []) × (told new_of (60 ∷ []) ≡ says_no_change ∷ [])
  -- 64 off is refused, which is no change
  pub refused : told outside (64 ∷ []) ≡ (Err Argument, record { released = false; note = 255 }) ∷ []
