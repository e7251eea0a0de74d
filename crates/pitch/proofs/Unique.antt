-- Two outcomes that meet a public function's statement are equal: each statement is an equation with one definition of
-- specs/Pitch.antt. Assumes nothing.
use Rattle.std.specs.Prelude.{Result}
use mathlib.Core.Path.{◌≡◌, sym, ◌∙◌}
use Prim.Native.Nat.{ℕ}
use lib.Ieee.{Float}
use Rattle.pitch.specs.Pitch.{frequency_of, midi_note_to_frequency_of, midi_note_to_frequency_f64_of}
use Rattle.answers.specs.declared.Refusal.{Refusal}

pub midi_note_to_frequency_unique : (note : ℕ) (r t : Result Float Refusal) → r ≡ midi_note_to_frequency_of note → t ≡ midi_note_to_frequency_of note → r ≡ t
midi_note_to_frequency_unique note r t p q = p ∙ sym q

pub midi_note_to_frequency_f64_unique : (note : ℕ) (r t : Result Float Refusal) → r ≡ midi_note_to_frequency_f64_of note → t ≡ midi_note_to_frequency_f64_of note → r ≡ t
midi_note_to_frequency_f64_unique note r t p q = p ∙ sym q

-- `frequency_of` and `frequency_of_f64`
pub frequency_of_unique : (note : ℕ) (r t : Float) → r ≡ frequency_of note → t ≡ frequency_of note → r ≡ t
frequency_of_unique note r t p q = p ∙ sym q
