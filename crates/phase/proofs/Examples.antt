-- The accumulator by example, on the definitions that the contracts cite; 01's worked example (h) is in the crate
-- `worked_examples`. Assumes nothing.
use Rattle.std.specs.Prelude.{Ok}
use mathlib.Core.Path.{◌≡◌, refl}
use lib.Ieee.{Float, binary32, add, sub, neg, lt, le, eq, of_bits, round}
use Rattle.floats.specs.Floor.{floor_of}
use Rattle.floats.specs.Range.{zero_of, one_of}
use Rattle.phase.specs.Phase.{cycles_of, new_of, set_increment_of, next_of, phase_of, set_phase_of}
use Rattle.phase.specs.declared.PhaseAccumulator.{PhaseAccumulator}

-- -2 ^ -30
abbrev pub minus_tiny : Float
minus_tiny = of_bits binary32 0xb080_0000

abbrev pub set_to : Float → PhaseAccumulator
set_to x = (set_phase_of new_of (cycles_of x)).state

-- "floor(-0) is -0", so -0 wraps to +0
pub minus-zero : phase_of (set_to (of_bits binary32 0x8000_0000)) ≡ Ok (cycles_of (zero_of binary32))
unfolding of_bits le lt eq add sub neg floor_of round
minus-zero = refl

-- both ends of 0 to 1 are reached, 1 by a step too: from phase 0 and the increment -2 ^ -30
pub record EndsReached : Type 0 where
  pub low : phase_of (set_to (one_of binary32)) ≡ Ok (cycles_of (zero_of binary32))
  pub high : phase_of (set_to minus_tiny) ≡ Ok (cycles_of (one_of binary32))
  pub high_by_step : phase_of (next_of (set_increment_of new_of (cycles_of minus_tiny)).state).accumulator ≡ Ok (cycles_of (one_of binary32))

pub ends-reached : EndsReached
unfolding of_bits le lt eq add sub neg floor_of round
ends-reached = record { low = refl; high = refl; high_by_step = refl }
