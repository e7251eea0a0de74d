-- What private functions are held to: the lines that a waveform is made of between two corrections, the phases of a
-- segment, on which it is one line, and how far an inner loop has come. No public statement cites these definitions.
-- Phases and steps are in radians, fractions and dt in cycles. Definitions only.
use Rattle.std.specs.Prelude.{Bool, cond, ◌&&◌, List, ◌≡◌, T, Float}
use Rattle.std.specs.Float.{binary64}
use Rattle.std.specs.Float.Ieee.{neg, lt, le, fits}
use Rattle.floats.specs.Range.{within}
use Rattle.floats.specs.Double.{◌⊕◌, ◌⊖◌, ◌⊗◌, zero64, half, one}
use Rattle.polyblep.specs.declared.Side.TheVariants.{Away}
use Rattle.polyblep.specs.Polyblep.{side_of, fract_of, naive_saw_of, rise_of, fall_of}
use Rattle.polyblep.proofs.Clear.{Lies}
use Rattle.waveform.specs.declared.Waveform.{Waveform}
use Rattle.waveform.specs.Waveform.{tau, two_tau, inv_tau, normal_of}
use Rattle.waveform.specs.Filled.{value_at}
use Rattle.waveform.proofs.Loops.{FilledUpTo}
use Rattle.low_notes.specs.declared.Line.{Line}
use Rattle.low_notes.specs.declared.Line.TheVariants.{High, Low, Climb, Rise, Fall}
use Rattle.low_notes.specs.declared.Segment.{Segment}
use Rattle.low_notes.specs.declared.Guess.{Guess}
use Rattle.low_notes.specs.declared.Progress.{Progress}

-- the value on a line at the fraction t of a cycle
abbrev pub line_of : Line → Float → Float
line_of High t = one
line_of Low t = neg one
line_of Climb t = naive_saw_of t ⊖ zero64
line_of Rise t = rise_of t ⊕ zero64 ⊖ zero64
line_of Fall t = fall_of t ⊕ zero64 ⊖ zero64

-- ---- the first two cycles, which begin at 0 and at TAU
abbrev pub base_of : Bool → Float
base_of first = cond first zero64 tau

abbrev pub is_one_cycle : Bool → Float → Float → Bool
is_one_cycle first from to = cond first (lt zero64 from && le to tau) (le tau from && le to two_tau)

-- the phase q as a fraction of the cycle that begins at base
abbrev pub fraction_of : Float → Float → Float
fraction_of base q = (q ⊖ base) ⊗ inv_tau

-- the fraction is dt or more and the end 1 - dt or less, for a dt from 0 to 1
abbrev pub is_clear : Float → Float → Float → Bool
is_clear fraction end dt = within zero64 one dt && le dt fraction && le end (one ⊖ dt)

-- ---- the phases of a segment: from its first up to, not including, its end
abbrev pub Inside : Float → Float → Float → Type 0
Inside from to q = T (fits binary64 q) × T (le from q) × T (lt q to)

-- `Inside`, as the code tests it
abbrev pub is_in_segment : Segment → Float → Bool
is_in_segment s q = le s.from.0 q && lt q s.to.0

-- the tests under which a step never lowers a phase of the segment
abbrev pub is_rising : Segment → Float → Bool
is_rising s step = le zero64 s.from.0 && le s.to.0 two_tau && within zero64 tau step

-- at every phase of the segment the value is that of its line
abbrev pub Straight : (Float → Float) → Segment → Type 0
Straight value s = (q : Float) → Inside s.from.0 s.to.0 q → value q ≡ line_of s.line (fraction_of s.base.0 q)

-- ---- a guess
-- each of a guess's phases has the fraction that its base gives; the fraction lies between those of its two ends, where
-- no correction is due for the ends of the cycle
abbrev pub Guessed : Float → Guess → Type 0
Guessed dt g = (q : Float) → Inside g.from.0 g.to.0 q → (normal_of q ≡ fraction_of g.base.0 q) × Lies (fraction_of g.base.0 q) g.fraction g.end_fraction dt

abbrev pub segment_of : Guess → Line → Segment
segment_of g line = record { from = g.from; to = g.to; base = g.base; line = line }

-- the value at each of a guess's fractions t is that of the line on t's side of a second edge
abbrev pub TwoSides : (Float → Float) → Float → Guess → Float → Line → Line → Type 0
TwoSides value dt g edge before behind = (t : Float) → Lies t g.fraction g.end_fraction dt → value t ≡ line_of (cond (lt t edge) before behind) t

-- with a second edge at 0.5: where neither correction is due, the value is that of the line on its side of 0.5
abbrev pub TwoLines : (Float → Float) → Float → Line → Line → Type 0
TwoLines value dt before behind = (t : Float) → side_of t dt ≡ Away → side_of (fract_of (t ⊕ half)) dt ≡ Away → value t ≡ line_of (cond (lt t half) before behind) t

-- ---- an inner loop
-- from ys and a to zs and b: if the values on the segment are those of its line, a loop that had reached ys and a has
-- now reached zs and b
abbrev pub FillsSegment : Segment → Float → Float → List Float → Progress → List Float → Progress → Type 0
FillsSegment s step scale ys a zs b = (value : Float → Float) → Straight value s → (p₀ : Float) (xs : List Float) → FilledUpTo value step scale p₀ xs ys a.phase.0 a.count → FilledUpTo value step scale p₀ xs zs b.phase.0 b.count

-- from ys and a to zs and b, with a waveform's own values, on a segment or not
abbrev pub FillsWaveform : Waveform → Float → Float → List Float → Progress → List Float → Progress → Type 0
FillsWaveform w step scale ys a zs b = (p₀ : Float) (xs : List Float) → FilledUpTo (value_at w step) step scale p₀ xs ys a.phase.0 a.count → FilledUpTo (value_at w step) step scale p₀ xs zs b.phase.0 b.count
