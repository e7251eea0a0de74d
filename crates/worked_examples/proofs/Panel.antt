-- What a front panel is told in the examples, by computing them. Assumes nothing.
use mathlib.Core.Path.{refl}
use lib.Ieee.{of_bits, of_int, div, lt, le, round}
use Rattle.pitch.specs.Patterns.{patterns}
use Rattle.pitch.specs.Pitch.{frequency_of}
use Rattle.voice.specs.Keys.{pairs, pressed_of, others, without_of, last_of, lifted_of, at_most, is_keys}
use Rattle.voice.specs.Voice.{velocity_of, is_voice}
use Rattle.worked_examples.specs.Panel.{PanelExamples}

pub panel_examples_hold : PanelExamples
unfolding of_bits of_int div lt le round velocity_of frequency_of patterns is_voice is_keys at_most pairs pressed_of others without_of last_of lifted_of
panel_examples_hold = record { example_k = refl; example_l = refl; example_m = refl; back_and_released = refl; both_dropped = refl; not-down = (refl, refl); refused = refl }
