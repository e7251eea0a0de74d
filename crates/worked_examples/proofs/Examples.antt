-- 01's worked examples hold: (i) and (j) by Levels.antt, the others by computing them here. Assumes nothing.
use mathlib.Core.Path.{refl}
use lib.Ieee.{of_bits, of_int, neg, add, sub, mul, div, lt, le, eq, round}
use Rattle.floats.specs.Floor.{floor_of}
use Rattle.polyblep.specs.Polyblep.{blep_of, saw_of, square_of}
use Rattle.pitch.specs.Patterns.{patterns}
use Rattle.pitch.specs.Pitch.{frequency_of}
use Rattle.voice.specs.Keys.{pairs, pressed_of, others, without_of, last_of, lifted_of, at_most, is_keys}
use Rattle.voice.specs.Voice.{velocity_of, is_voice}
use Rattle.worked_examples.specs.Examples.{Examples}
use Rattle.worked_examples.proofs.Levels.{levels_hold}

pub examples_hold : Examples
unfolding of_bits of_int neg add sub mul div lt le eq round floor_of blep_of saw_of square_of velocity_of frequency_of patterns is_voice is_keys at_most pairs pressed_of others without_of last_of lifted_of
examples_hold =
    record {
      example_a = refl;
      example_b = refl;
      example_c = refl;
      example_d = (refl, refl);
      example_e = refl;
      example_f = refl;
      example_g = refl;
      example_h = (refl, refl);
      example_i = λ xs e. (levels_hold xs e).0;
      example_j = λ xs e. (levels_hold xs e).1;
      example_k = record { held = refl; active = refl; off = refl; active_then = refl };
      example_l = record { offs = refl; held = refl; active = refl; off = refl };
      example_m = record { off = refl; held = refl };
    }
