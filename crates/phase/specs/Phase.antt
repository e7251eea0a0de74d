-- The accumulator of phase.rs. 01: "Accumulator: wrap(x) = x - floor(x), in f32, where floor(-0) is -0"; "Accumulator
-- arguments must be finite, its rate above 0 and the quotient finite"; "Given states: accumulator phase 0 to 1,
-- increment finite"; number 9 for anything else, with "any single value as +0", and the call "hands back state by value
-- as it came".
--
-- Every call judges the whole state that it is given, also where it reads or replaces one field only. The count is 0:
-- no samples are written. Definitions only.
use Rattle.std.specs.Prelude.{Bool, ◌&&◌, List, Float, Result, Err, Ok}
use Rattle.std.specs.Float.{binary32}
use Rattle.std.specs.Float.Ieee.{add, sub, div, lt}
use Rattle.std.specs.Float.Ieee.Scale.{finite}
use Rattle.floats.specs.Range.{zero_of, one_of, within}
use Rattle.floats.specs.Floor.{floor_of}
use Rattle.answers.specs.declared.Changed.{Changed}
use Rattle.answers.specs.declared.Refusal.{Refusal}
use Rattle.answers.specs.declared.Refusal.TheVariants.{Argument}
use Rattle.answers.specs.Changed.{changed_or}
use Rattle.answers.specs.Order.{unless, first_of}
use Rattle.answers.specs.Value.{value_or}
use Rattle.phase.specs.declared.Cycles.{Cycles}
use Rattle.phase.specs.declared.PhaseAccumulator.{PhaseAccumulator}
use Rattle.phase.specs.declared.Stepped.{Stepped}

abbrev pub cycles_of : Float → Cycles
cycles_of x = record { 0 = x }

-- phase 0 to 1, increment finite
abbrev pub is_state : PhaseAccumulator → Bool
is_state a = within (zero_of binary32) (one_of binary32) a.phase.0 && finite a.increment.0

-- x - floor(x), rounded once
abbrev pub wrap_of : Float → Float
wrap_of x = sub binary32 x (floor_of binary32 x)

-- ---- the state with one field replaced
abbrev pub with_phase : PhaseAccumulator → Float → PhaseAccumulator
with_phase a x = record { phase = cycles_of x; increment = a.increment }

abbrev pub with_increment : PhaseAccumulator → Float → PhaseAccumulator
with_increment a x = record { phase = a.phase; increment = cycles_of x }

-- ---- what a call leaves, unless it is refused: then the state as it came, and +0 for a number of cycles
abbrev pub stepped_or : List Refusal → Float → PhaseAccumulator → PhaseAccumulator → Stepped
stepped_or refusals x before after =
    first_of refusals (λ (why : Refusal). record { answer = Err why; cycles = cycles_of (zero_of binary32); accumulator = before }) (record { answer = Ok 0; cycles = cycles_of x; accumulator = after })

-- ---- the calls
-- phase 0 and increment 0
abbrev pub new_of : PhaseAccumulator
new_of = record { phase = cycles_of (zero_of binary32); increment = cycles_of (zero_of binary32) }

-- the increment is frequency / rate, both in Hz
abbrev pub set_frequency_of : PhaseAccumulator → Float → Float → Changed PhaseAccumulator
set_frequency_of a f r =
    let increment = div binary32 f r in
    changed_or (unless (is_state a && finite f && finite r && lt (zero_of binary32) r && finite increment) Argument) a (with_increment a increment)

abbrev pub set_increment_of : PhaseAccumulator → Cycles → Changed PhaseAccumulator
set_increment_of a x = changed_or (unless (is_state a && finite x.0) Argument) a (with_increment a x.0)

abbrev pub increment_of : PhaseAccumulator → Result Cycles Refusal
increment_of a = value_or (unless (is_state a) Argument) a.increment

-- the phase before the step, and the state after it
abbrev pub next_of : PhaseAccumulator → Stepped
next_of a = stepped_or (unless (is_state a) Argument) a.phase.0 a (with_phase a (wrap_of (add binary32 a.phase.0 a.increment.0)))

abbrev pub phase_of : PhaseAccumulator → Result Cycles Refusal
phase_of a = value_or (unless (is_state a) Argument) a.phase

-- the phase is set to any finite number of cycles, wrapped
abbrev pub set_phase_of : PhaseAccumulator → Cycles → Changed PhaseAccumulator
set_phase_of a x = changed_or (unless (is_state a && finite x.0) Argument) a (with_phase a (wrap_of x.0))

-- the phase is set to 0; the increment stays
abbrev pub reset_of : PhaseAccumulator → Changed PhaseAccumulator
reset_of a = changed_or (unless (is_state a) Argument) a (with_phase a (zero_of binary32))
