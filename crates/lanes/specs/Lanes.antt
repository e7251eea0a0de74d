-- Four lanes of polyblep.rs. 02, R-10: "Port the simd corrections and the four apply calls of polyblep.rs over arrays
-- of four numbers, with their own floor."; "Above 0.5 the two part, since the later test wins".
--
-- A lane has the two values of the single form (`polyblep`) and makes its two tests. Where both hold, the later one in
-- the text wins, that for the side before the step. The apply calls correct samples that are given, in the order of
-- operations of the single waveforms; their floor is std::simd's, lane by lane, which is `floor_of` too. All is defined
-- for every float, in the domain or not. Definitions only.
use Rattle.std.specs.Prelude.{ℕ, cond, List, [], ◌∷◌, slice_index_or, Float}
use Rattle.std.specs.Float.{nan}
use Rattle.std.specs.Float.Ieee.{lt}
use Rattle.floats.specs.Double.{◌⊖◌, ◌⊘◌, one, eight}
use Rattle.polyblep.specs.declared.Side.{Side}
use Rattle.polyblep.specs.declared.Side.TheVariants.{After, Before, Away}
use Rattle.polyblep.specs.Polyblep.{blep_after, blep_before, blamp_after, blamp_before, value_at, saw_by, square_by, pulse_by, triangle_by}

-- ---- one lane
abbrev pub lane_side : Float → Float → Side
lane_side t dt = cond (lt (one ⊖ dt) t) (Before ((t ⊖ one) ⊘ dt)) (cond (lt t dt) (After (t ⊘ dt)) Away)

unfoldable pub blep_lane : Float → Float → Float
blep_lane t dt = value_at blep_after blep_before (lane_side t dt)

unfoldable pub blamp_lane : Float → Float → Float
blamp_lane t dt = value_at (blamp_after dt) (blamp_before dt) (lane_side t dt)

-- ---- four of them
-- number i of an array
abbrev pub lane : List Float → ℕ → Float
lane x i = slice_index_or x i nan

abbrev pub four_of : {A : Type 0} → (ℕ → A) → List A
four_of f = f 0 ∷ f 1 ∷ f 2 ∷ f 3 ∷ []

-- a function of each number, and of the numbers of two arrays
abbrev pub each : (Float → Float) → List Float → List Float
each f x = four_of (λ (i : ℕ). f (lane x i))

abbrev pub both : {A : Type 0} → (Float → Float → A) → List Float → List Float → List A
both f x y = four_of (λ (i : ℕ). f (lane x i) (lane y i))

-- ---- four samples, corrected
abbrev pub saw_lanes : List Float → List Float → Float → List Float
saw_lanes samples phases dt = both (λ (x p : Float). saw_by blep_lane x p dt) samples phases

abbrev pub square_lanes : List Float → List Float → Float → List Float
square_lanes samples phases dt = both (λ (x p : Float). square_by blep_lane x p dt) samples phases

abbrev pub pulse_lanes : List Float → List Float → Float → Float → List Float
pulse_lanes samples phases dt duty = both (λ (x p : Float). pulse_by blep_lane x p dt duty) samples phases

abbrev pub triangle_lanes : List Float → List Float → Float → List Float
triangle_lanes samples phases dt = both (λ (x p : Float). triangle_by eight blamp_lane x p dt) samples phases
