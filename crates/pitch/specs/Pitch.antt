-- The pitch of a note. 01: "a table of the f32 answers of `midi_note_to_frequency`, widened"; "Notes and velocities are
-- 0 to 127"; number 9 for any other note, with "any single value as +0".
--
-- A value of an f32 is the same number as an f64, so both widths have one definition. The count is 0: no samples are
-- written. Definitions only.
use Rattle.std.specs.Prelude.{ℕ, get_or, Float, Result}
use Rattle.std.specs.Float.{binary32}
use Rattle.std.specs.Float.Ieee.{of_bits}
use Rattle.domain.specs.Domain.{is_midi}
use Rattle.answers.specs.declared.Refusal.{Refusal}
use Rattle.answers.specs.declared.Refusal.TheVariants.{Argument}
use Rattle.answers.specs.Order.{unless}
use Rattle.answers.specs.Value.{value_or}
use Rattle.pitch.specs.Patterns.{patterns}

-- the pitch of a note in Hz, from the table; +0 above 127
unfoldable pub frequency_of : ℕ → Float
frequency_of note = of_bits binary32 (get_or patterns note 0)

-- ---- the calls, in f32 and in f64
abbrev pub midi_note_to_frequency_of : ℕ → Result Float Refusal
midi_note_to_frequency_of note = value_or (unless (is_midi note) Argument) (frequency_of note)

abbrev pub midi_note_to_frequency_f64_of : ℕ → Result Float Refusal
midi_note_to_frequency_f64_of note = value_or (unless (is_midi note) Argument) (frequency_of note)
