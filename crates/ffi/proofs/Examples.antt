-- The desk by worked examples: words, which of code, duty, phase and dt is judged, and which numbers are settings.
-- Computed, but for the codes above 6. Assumes nothing.
use Rattle.std.specs.Prelude.{Err, None, Ok, Some}
use mathlib.Core.Path.{◌≡◌, refl, subst}
use mathlib.Core.Bool.{false}
use mathlib.Core.List.{[], ◌∷◌, map}
use Prim.Native.Nat.{ℕ, ◌<◌}
use native.Mathlib.Nat.{lt_irrefl}
use native.Mathlib.Omega.{arith}
use borrow.Author.Tests.{ne_eqb}
use lib.Dec.{eqb}
use lib.Ieee.{Float, binary64, of_bits, neg, add, sub, mul, div, le, lt, eq}
use Rattle.answers.specs.Answer.{Answer}
use Rattle.answers.specs.declared.Refusal.TheVariants.{Score, NewScore, Setting, Argument, EditFrame, NotThere, Full, Page, Edit}
use Rattle.answers.specs.declared.ScoreFault.TheVariants.{Kind, Field, Order}
use Rattle.floats.specs.Double.{zero64, half}
use Rattle.floats.specs.Floor.{floor_of}
use Rattle.answers.specs.Value.{value_or}
use Rattle.page.specs.Page.{paged}
use Rattle.polyblep.specs.Polyblep.{rounded_blamp_of, rounded_of}
use Rattle.ffi.specs.Packed.{packed_of, packed_page}
use Rattle.state.specs.declared.Keying.TheVariants.{Struck, Joined}
use Rattle.waveform.specs.declared.Waveform.TheVariants.{Sine, Square, Sawtooth, Triangle, Pulse, RoundedTriangle}
use Rattle.waveform.specs.Waveform.{value_of, sample_of}
use Rattle.ffi.specs.Ffi.{asks, shape_of, manner_of, settings_of, choice_of, answer_in, single_of}

-- done with count 0, done with count 4,096; position of record 1 below that of record 0; the new score's record 3 has a
-- wrong kind; 6
pub words : map packed_of (Ok 0 ∷ Ok 4096 ∷ Err (Score (Order 1)) ∷ Err (NewScore (Kind 3)) ∷ Err Setting ∷ []) ≡ 0 ∷ 0x1000_0000_0000 ∷ 0x105 ∷ 0x313 ∷ 6 ∷ []
unfolding packed_of
words = refl

-- pages: done, with 4,096 samples and a new score of 20 bytes; edit 2 has a wrong
-- frame; edit 1 removes what is not there; edit 70,000 inserts into 4,096 records; 36; the record of edit 3 has a wrong
-- field
pub pages : map (λ (a : Answer). packed_page (paged a 20)) (Ok 4096 ∷ Err (EditFrame 2) ∷ Err (NotThere 1) ∷ Err (Full 70000) ∷ Err Page ∷ Err (Edit (Field 3)) ∷ []) ≡ 0x1000_0000_1400 ∷ 0x221 ∷ 0x122 ∷ 0x111_7023 ∷ 0x24 ∷ 0x334 ∷ []
unfolding packed_page
pages = refl

abbrev nan : Float
nan = of_bits binary64 0x7ff8_0000_0000_0000

abbrev five : Float
five = of_bits binary64 0x4014_0000_0000_0000

-- code 9 with a NaN phase is refused with 6, and so is a pulse with a NaN duty; a sine with a NaN duty is done; a sine
-- with a dt of 5 is refused with 9
pub judged : ((answer_in (single_of 9 nan zero64 zero64)) ∷ (answer_in (single_of 4 zero64 zero64 nan)) ∷ (answer_in (single_of 0 zero64 zero64 nan)) ∷ (answer_in (single_of 0 zero64 five zero64)) ∷ [])
    ≡ Err Setting ∷ Err Setting ∷ Ok 0 ∷ Err Argument ∷ []
unfolding shape_of of_bits le lt eq
judged = refl

-- 0 to 4 and 6 name a waveform, whatever the duty is, and a pulse alone has it; 5 names none
pub codes : (duty : Float) → map (λ (code : ℕ). shape_of code duty) (0 ∷ 1 ∷ 2 ∷ 3 ∷ 4 ∷ 5 ∷ 6 ∷ [])
    ≡ Some Sine ∷ Some Square ∷ Some Sawtooth ∷ Some Triangle ∷ Some (Pulse duty) ∷ None ∷ Some RoundedTriangle ∷ []
unfolding shape_of
codes duty = refl

-- nor does any code above 6
pub above_six : (code : ℕ) (duty : Float) → 6 < code → shape_of code duty ≡ None
unfolding shape_of
above_six code duty h = rw (other 0 (omega arith), other 1 (omega arith), other 2 (omega arith), other 3 (omega arith), other 4 (omega arith), other 6 (omega arith)) refl
  where
    other : (n : ℕ) → n < code → eqb code n ≡ false
    other n l = ne_eqb code n (λ e. absurd (lt_irrefl n (subst (λ (z : ℕ). n < z) e l)))

-- so a single sample of code 6 is the rounded triangle's, and of code 5 it is refused with 6, whatever the rest is
pub code_six : (phase dt duty : Float) → single_of 6 phase dt duty ≡ sample_of RoundedTriangle phase dt
unfolding shape_of
code_six phase dt duty = refl

pub code_five : (phase dt duty : Float) → single_of 5 phase dt duty ≡ Err Setting
unfolding shape_of
code_five phase dt duty = refl

-- with dt = 3/16 and a NaN duty: done, -0.75 at the lower corner, 0.75 at the upper
pub rounded_corners : map (λ (phase : Float). single_of 6 phase (of_bits binary64 0x3fc8_0000_0000_0000) nan) (zero64 ∷ half ∷ [])
    ≡ value_or [] (of_bits binary64 0xbfe8_0000_0000_0000) ∷ value_or [] (of_bits binary64 0x3fe8_0000_0000_0000) ∷ []
unfolding shape_of value_of rounded_of rounded_blamp_of floor_of of_bits neg add sub mul div lt le eq
rounded_corners = refl

-- oscillator and LFO take code 6 alike
pub both-rounded : (duty lfo_duty : Float) → choice_of (asks 8000 6 duty zero64 zero64 zero64 zero64 6 lfo_duty zero64 zero64 0) ≡ Some (settings_of (asks 8000 6 duty zero64 zero64 zero64 zero64 6 lfo_duty zero64 zero64 0) RoundedTriangle RoundedTriangle Struck)
unfolding shape_of manner_of choice_of
both-rounded duty lfo_duty = refl

-- 0 is struck and 1 joined; 2, 256, 2^31 and 2^32 - 1 are unknown
pub keyings : map manner_of (0 ∷ 1 ∷ 2 ∷ 256 ∷ 2147483648 ∷ 4294967295 ∷ []) ≡ Some Struck ∷ Some Joined ∷ None ∷ None ∷ None ∷ None ∷ []
unfolding manner_of
keyings = refl

-- an LFO's code of 5 is unknown beside a waveform that is known, as a waveform's of 5 is beside an LFO; and so is 2 for
-- joined beside two codes that are known
pub unknown : (choice_of (asks 8000 0 zero64 zero64 zero64 zero64 zero64 5 zero64 zero64 zero64 0) ∷ choice_of (asks 8000 5 zero64 zero64 zero64 zero64 zero64 0 zero64 zero64 zero64 0) ∷ choice_of (asks 8000 0 zero64 zero64 zero64 zero64 zero64 0 zero64 zero64 zero64 2) ∷ [])
    ≡ None ∷ None ∷ None ∷ []
unfolding shape_of manner_of choice_of
unknown = refl
