-- What private functions are held to: when a group of samples is passed over whole, and the peak after more samples. No
-- public statement cites these definitions. Definitions only.
use Rattle.std.specs.Prelude.{Bool, true, cond, ◌&&◌, List, ℕ, zero, suc, ◌+◌, Float}
use Rattle.std.specs.Float.Ieee.{lt, le, neg}
use Rattle.floats.specs.Double.{zero64}
use Rattle.peaks.specs.declared.Peak.{Peak}
use Rattle.peaks.specs.Peaks.{sample_at, magnitude_at, higher}

-- how many samples are a group
abbrev pub group_size : ℕ
group_size = 16

-- the number without its sign, but -0 for -0
abbrev pub size_of : Float → Float
size_of x = cond (lt x zero64) (neg x) x

-- whether each of the first k samples is at most a in size; a NaN is not
unfoldable pub is_quiet : List Float → Float → ℕ → Bool
is_quiet xs a zero = true
is_quiet xs a (suc k) = is_quiet xs a k && le (size_of (sample_at xs k)) a

-- the peak p after the first k of the samples xs more, which are numbered from n on
unfoldable pub peak_after : Peak → List Float → ℕ → ℕ → Peak
peak_after p xs n zero = p
peak_after p xs n (suc k) = higher (peak_after p xs n k) (magnitude_at xs k) (n + k)
