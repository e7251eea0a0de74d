-- The remainders over TAU of the phases of a block, in a list. Definitions only.
use Rattle.std.specs.Prelude.{List, ℕ, get_or, Float}
use Rattle.std.specs.Float.{nan}
use Rattle.runs.specs.Runs.{listed}
use Rattle.waveform.specs.Waveform.{remainder_of}
use Rattle.waveform.specs.Filled.{phase_from}

-- what is made of the first k numbers of a list
unfoldable pub made_of : (Float → Float) → List Float → ℕ → List Float
made_of value xs k = listed (λ (i : ℕ). value (get_or xs i nan)) k

-- the remainders of the phases before the first n samples
abbrev pub remainders_of : Float → Float → ℕ → List Float
remainders_of step p n = listed (λ (i : ℕ). remainder_of (phase_from step p i)) n
