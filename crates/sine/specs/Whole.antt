-- The whole wave, unfolded from the quarter: 01's a at each of its 4,096 points and at its end, as a float.
-- A reading of such a table takes a at its point and b at the next point, by 01's rule: "p = u*4096, i its whole part,
-- f = p - i; i = 4096 is read as i = 0, f = 0" and "The answer is (a + (b - a)*f)/2^30".
-- A reading of the whole wave is the reading of the quarter (proofs/Whole.antt). Definitions only.
use Rattle.std.specs.Prelude.{cond, ◌&&◌, List, ℕ, ◌+◌, ◌/◌, ◌%◌, pos, eqb, length, get_or, Float}
use Rattle.std.specs.Float.{nan}
use Rattle.runs.specs.Runs.{listed}
use Rattle.floats.specs.Range.{within}
use Rattle.floats.specs.Double.{◌⊖◌, ◌⊗◌, zero64, one}
use Rattle.sine.specs.Table.{quarter}
use Rattle.sine.specs.Sine.{steps, whole_part, float, start_of, line_of}

-- a at point i: "quadrants 2 and 3 are the negatives of 0 and 1, negated as whole numbers, so a zero reads as +0"
abbrev pub level_of : ℕ → Float
level_of i = float (start_of quarter (i / 1024) (i % 1024))

-- at the first k points
unfoldable pub levels : ℕ → List Float
levels k = listed level_of k

-- from point 0 to point 4096, where the wave begins again
abbrev pub whole_wave : List Float
whole_wave = levels 4097

-- ---- the reading of a table W
abbrev pub whole_line : List Float → ℕ → Float → Float
whole_line W i f = line_of (get_or W i nan) (get_or W (i + 1) nan) f

unfoldable pub whole_point_of : List Float → Float → Float
whole_point_of W p = let i = whole_part p in cond (eqb i 4096) (whole_line W 0 zero64) (whole_line W i (p ⊖ float (pos i)))

-- at u; +0 outside 0 to 1, and of a table of another length
unfoldable pub whole_reading : List Float → Float → Float
whole_reading W u = cond (within zero64 one u && eqb (length W) 4097) (whole_point_of W (u ⊗ steps)) zero64
