-- The peak of a section. 02, R-3: "Keep, for each 4,096-sample section, the largest magnitude and the number, from the
-- output's start, of the first sample where it stands".
--
-- Here a sample's number counts from the section's own first sample, and the section has any length. A magnitude is a
-- sample without its sign, +0 for -0, so that silence has the peak +0. Of equal magnitudes the first sample counts.
-- Everything is defined for every list: the peak of no sample at all is +0 at 0, and a NaN is above nothing. What a
-- magnitude means is `IsMagnitude`, and what the peak of finite samples, one at least, means is `IsPeak`. Definitions
-- only.
use Rattle.std.specs.Prelude.{cond, List, ◌≡◌, ℕ, zero, suc, ◌<◌, T, length, get_or, Float}
use Rattle.std.specs.Float.{nan}
use Rattle.std.specs.Float.Ieee.{lt, le, eq, neg}
use Rattle.floats.specs.Double.{zero64}
use Rattle.peaks.specs.declared.Peak.{Peak}

abbrev pub magnitude_of : Float → Float
magnitude_of x = cond (lt x zero64) (neg x) (cond (eq x zero64) zero64 x)

-- sample i of a list, a NaN past its end, and the magnitude of that sample
abbrev pub sample_at : List Float → ℕ → Float
sample_at xs i = get_or xs i nan

abbrev pub magnitude_at : List Float → ℕ → Float
magnitude_at xs i = magnitude_of (sample_at xs i)

abbrev pub stands : Float → ℕ → Peak
stands a i = record { magnitude = a; offset = i }

-- after the peak p comes sample i, of magnitude a: it takes p's place only where a is larger than p's magnitude
abbrev pub higher : Peak → Float → ℕ → Peak
higher p a i = cond (lt p.magnitude a) (stands a i) p

-- the peak of the first k samples
unfoldable pub peak_to : List Float → ℕ → Peak
peak_to xs zero = stands zero64 0
peak_to xs (suc k) = higher (peak_to xs k) (magnitude_at xs k) k

abbrev pub peak_of : List Float → Peak
peak_of xs = peak_to xs (length xs)

-- a is the magnitude of x, which is no NaN: x without its sign, and +0 for a zero of either sign
pub record IsMagnitude (x a : Float) : Type 0 where
  pub below : T (lt x zero64) → a ≡ neg x
  pub none : T (eq x zero64) → a ≡ zero64
  pub above : T (lt zero64 x) → a ≡ x

-- p is the largest magnitude of xs, with the offset of the first sample where it stands
pub record IsPeak (xs : List Float) (p : Peak) : Type 0 where
  pub there : p.offset < length xs
  pub here : p.magnitude ≡ magnitude_at xs p.offset
  pub largest : (i : ℕ) → i < length xs → T (le (magnitude_at xs i) p.magnitude)
  pub first : (i : ℕ) → i < p.offset → T (lt (magnitude_at xs i) p.magnitude)
