-- What private functions are held to: phases and fractions of a cycle in a lent list, one difference of them, and edges
-- that are apart. No public statement cites these. Definitions only.
use Rattle.std.specs.Prelude.{Bool, true, false, cond, ◌&&◌, ◌||◌, List, ◌≡◌, ℕ, ◌<◌, T, length, get_or, Float}
use Rattle.std.specs.Float.{binary64, nan}
use Rattle.std.specs.Float.Ieee.{of_bits, lt, le, fits}
use Rattle.floats.specs.Range.{within, nonneg}
use Rattle.floats.specs.Double.{◌⊕◌, ◌⊖◌, ◌⊗◌, ◌⊘◌, zero64, half, one}
use Rattle.polyblep.specs.declared.Side.TheVariants.{Away}
use Rattle.polyblep.specs.Polyblep.{side_of, fract_of, knee_after, knee_before, naive_triangle_of}
use Rattle.polyblep.proofs.Clear.{below_one, from_one}
use Rattle.waveform.specs.declared.Waveform.{Waveform}
use Rattle.waveform.specs.declared.Waveform.TheVariants.{Sine, Square, Sawtooth, Triangle, Pulse, RoundedTriangle}
use Rattle.waveform.specs.Waveform.{inv_tau}

-- 2^-10 and 1 - 2^-10, between which a duty is far enough from 0 and 1
abbrev pub least : Float
least = of_bits binary64 0x3f50_0000_0000_0000

abbrev pub most : Float
most = of_bits binary64 0x3fef_f800_0000_0000

-- 4, 8, 16 and 32 TAU
abbrev pub four_tau : Float
four_tau = of_bits binary64 0x4039_21fb_5444_2d18

abbrev pub eight_tau : Float
eight_tau = of_bits binary64 0x4049_21fb_5444_2d18

abbrev pub sixteen_tau : Float
sixteen_tau = of_bits binary64 0x4059_21fb_5444_2d18

abbrev pub thirty_two_tau : Float
thirty_two_tau = of_bits binary64 0x4069_21fb_5444_2d18

-- x less y, where it is not below y
abbrev pub wrap_once_of : Float → Float → Float
wrap_once_of y x = x ⊖ cond (lt x y) zero64 y

-- every number of a list is a float from 0 up to, not including, a bound
pub record Below (bound x : Float) : Type 0 where
  pub fit : T (fits binary64 x)
  pub sign : T (nonneg x)
  pub under : T (lt x bound)

abbrev pub AllBelow : Float → List Float → Type 0
AllBelow bound xs = (i : ℕ) → i < length xs → Below bound (get_or xs i nan)

-- every number of ys is what is made of the number of xs in its place
pub record EachMade (made : Float → Float → Type 0) (xs ys : List Float) : Type 0 where
  pub long : length ys ≡ length xs
  pub each : (i : ℕ) → i < length xs → made (get_or xs i nan) (get_or ys i nan)

-- every number of a list, in cycles, is from 0 to 1
abbrev pub AllFractions : List Float → Type 0
AllFractions xs = (i : ℕ) → i < length xs → T (within zero64 one (get_or xs i nan ⊗ inv_tau))

-- ---- two edges that are apart: the first at fractions 0 and 1, the second where its phase, other u, is a whole number
abbrev pub quarter : Float
quarter = of_bits binary64 0x3fd0_0000_0000_0000

abbrev pub three_quarters : Float
three_quarters = of_bits binary64 0x3fe8_0000_0000_0000

-- from one fraction of a cycle up to another only the second edge may be near; at all other fractions only the first
abbrev pub is_second : Float → Float → Float → Bool
is_second from to u = le from u && lt u to

abbrev pub OneEdge : (Float → Float) → Float → Float → Float → Type 0
OneEdge other dt from to = (u : Float) → T (within zero64 one u) → (is_second from to u ≡ true → side_of u dt ≡ Away) × (is_second from to u ≡ false → side_of (fract_of (other u)) dt ≡ Away)

-- with the second edge at the half
abbrev pub HalfApart : Float → Type 0
HalfApart dt = OneEdge (λ (t : Float). t ⊕ half) dt quarter three_quarters

-- a waveform with two edges has its second at the half, or at its duty
abbrev pub Apart : Waveform → Float → Type 0
Apart Sine dt = Unit {0}
Apart Square dt = HalfApart dt
Apart Sawtooth dt = Unit {0}
Apart Triangle dt = HalfApart dt
Apart (Pulse duty) dt = T (within least most duty) × OneEdge (λ (t : Float). t ⊖ duty ⊕ one) dt (duty ⊗ half) (half ⊕ duty ⊗ half)
Apart RoundedTriangle dt = HalfApart dt

-- the test that edges are apart, by the second edge's phase at fraction 0, at the two ends, and at 1
abbrev pub is_apart : Float → Float → Float → Float → Float → Float → Float → Bool
is_apart from to low before behind high dt = within zero64 one from && within zero64 one to && (le dt from && le to (one ⊖ dt)) && (below_one low before dt && from_one behind high dt)

-- ---- corners
-- whether t is less than a sample away from a step or a corner, and the bracket of a corner's correction there
abbrev pub is_near : Float → Float → Bool
is_near t dt = lt t dt || lt (one ⊖ dt) t

abbrev pub knee_of : Float → Float → Float
knee_of t dt = let x = cond (lt t dt) t (t ⊖ one) ⊘ dt in cond (lt t dt) (knee_after x) (knee_before x)

-- the phase from the nearer of a triangle's corners
abbrev pub from_nearer_corner : Float → Float
from_nearer_corner u = cond (is_second quarter three_quarters u) (fract_of (u ⊕ half)) u

-- the naive triangle with that corner's correction, which is taken away at the upper corner
abbrev pub with_nearer_corner : Float → Float → Float
with_nearer_corner u c = let second = is_second quarter three_quarters u in naive_triangle_of u ⊕ cond second zero64 c ⊖ cond second c zero64
