-- The rules of the 128 pitches: strictly rising, in tune, above 0 and at most 12,544 Hz. One test computed over the
-- table gives the rules at every note. Assumes nothing.
use mathlib.Core.Path.{◌≡◌, refl, ap}
use mathlib.Core.Bool.{Bool, true, false, not, ◌&&◌, ◌||◌}
use Prim.Native.Nat.{ℕ, suc, ◌*◌, ◌^◌, ◌<◌, ◌≤◌}
use native.Mathlib.Omega.{arith}
use borrow.Author.Tests.{ltb-true, ltb-false}
use lib.Dec.{T, ltb, leb, ltb→lt, leb→le}
use lib.ListN.{length, get_or, get_or-eq_default}
use lib.Ieee.{Float, nan, inf, fin, binary32, binary64, of_bits, lt, le, fits, is_nan}
use lib.Ieee.Fits.{and_i, and_l, and_r}
use lib.Ieee.Bits.{of_bits-fits}
use lib.Ieee.Positive.{num, den}
use lib.Ieee.Scale.{finite}
use Rattle.floats.specs.Range.{plus_zero}
use Rattle.floats.specs.Double.{zero64}
use Rattle.floats.proofs.Order.{lt-le}
use Rattle.floats.proofs.Literals.{zero_of-is}
use Rattle.floats.proofs.Bounded.{Size, size_of_range, size-finite}
use Rattle.pitch.specs.Patterns.{patterns}
use Rattle.pitch.specs.Pitch.{frequency_of}
use Rattle.domain.specs.Domain.{highest_pitch, is_pitch}
use Rattle.pitch.specs.Tuning.{InTune, tempered}
use Rattle.floats.proofs.Carried.{every, at}

-- ---- the test at note k, whose bits are b and whose pitch is x
abbrev rises : ℕ → Float → Bool
rises k x = leb 127 k || lt x (of_bits binary32 (get_or patterns (suc k) 0))

abbrev above : ℕ → Float → Bool
above k x = ltb (tempered k * (1000000 * den x) ^ 12) ((1000001 * num x) ^ 12 * 2 ^ 69)

abbrev below : ℕ → Float → Bool
below k x = ltb ((999999 * num x) ^ 12 * 2 ^ 69) (tempered k * (1000000 * den x) ^ 12)

abbrev pub ranged : Float → Bool
ranged x = is_pitch binary64 x

abbrev right : ℕ → ℕ → Bool
right k b =
    let x = of_bits binary32 b in
    rises k x && ((above k x && below k x) && ranged x)

-- the test passes at every note
all_right_lem : T (every right 0 patterns)
unfolding patterns of_bits lt le
all_right_lem = tt

-- the table has 128 pitches
count : length patterns ≡ 128
unfolding patterns
count = refl

-- 12,544 is finite
highest_finite : T (finite (highest_pitch binary64))
unfolding of_bits
highest_finite = tt

-- ---- what the test shows of every note
module _ (note : ℕ) (h : note < 128) where
  abbrev x : Float
  x = of_bits binary32 (get_or patterns note 0)

  ok : T (right note (get_or patterns note 0))
  ok = at right patterns all_right_lem note (rw count h)

  rest : T ((above note x && below note x) && ranged x)
  rest = and_r (rises note x) ((above note x && below note x) && ranged x) ok

  tuned : T (above note x && below note x)
  tuned = and_l (above note x && below note x) (ranged x) rest

  rises_at : note < 127 → T (lt (frequency_of note) (frequency_of (suc note)))
  unfolding frequency_of
  rises_at l =
      second (leb 127 note) (lt x (of_bits binary32 (get_or patterns (suc note) 0))) (λ (t : T (leb 127 note)). omega (arith, leb→le 127 note t))
      (and_l (rises note x) ((above note x && below note x) && ranged x) ok)
    where
      second : (a b : Bool) → (T a → ⊥) → T (a || b) → T b
      second true b n t = absurd (n tt)
      second false b n t = t

  -- within a millionth of the equal-tempered pitch
  pub frequency_in_tune : InTune note (frequency_of note)
  unfolding frequency_of
  frequency_in_tune =
      record {
        above = ltb→lt _ _ (and_l (above note x) (below note x) tuned);
        below = ltb→lt _ _ (and_r (above note x) (below note x) tuned);
      }

  -- above 0 and at most 12,544 Hz, as an f32 and as an f64
  pub frequency_in : T (is_pitch binary64 (frequency_of note))
  unfolding frequency_of
  frequency_in = and_r (above note x && below note x) (ranged x) rest

  -- the size is at most 12,544 Hz, so the pitch is finite
  pub frequency-sized : Size (highest_pitch binary64) (frequency_of note)
  frequency-sized =
      size_of_range (highest_pitch binary64) (frequency_of note) highest_finite
      (and_i (le plus_zero (frequency_of note)) (le (frequency_of note) (highest_pitch binary64))
      (rw zero_of-is at (lt-le zero64 (frequency_of note) (and_l (lt zero64 (frequency_of note)) (le (frequency_of note) (highest_pitch binary64)) frequency_in)))
      (and_r (lt zero64 (frequency_of note)) (le (frequency_of note) (highest_pitch binary64)) frequency_in))

  pub frequency-finite : T (finite (frequency_of note))
  frequency-finite = size-finite (highest_pitch binary64) (frequency_of note) frequency-sized

-- the pitch of each note is below that of the next
pub frequency_rises : (note : ℕ) → note < 127 → T (lt (frequency_of note) (frequency_of (suc note)))
frequency_rises note h = rises_at note (omega arith) h

-- note 69 is 440 Hz
pub concert_pitch : frequency_of 69 ≡ of_bits binary64 0x407b_8000_0000_0000
unfolding frequency_of patterns of_bits
concert_pitch = refl

-- ---- for every number, a note or not
-- x is above 0: x is no NaN
above_no_nan : (x : Float) → T (lt zero64 x) → T (not (is_nan x))
unfolding of_bits lt is_nan
above_no_nan nan h = h
above_no_nan (inf s) h = tt
above_no_nan (fin s m e) h = tt

zero-no_nan : T (not (is_nan zero64))
unfolding of_bits is_nan
zero-no_nan = tt

-- above note 127 the pitch is +0
pub frequency-past : (note : ℕ) → 128 ≤ note → frequency_of note ≡ zero64
unfolding frequency_of of_bits
frequency-past note h = ap (of_bits binary32) (get_or-eq_default patterns 0 (rw count h))

-- a pitch is a value of an f32, hence of an f64
pub frequency-fits : (note : ℕ) → T (fits binary32 (frequency_of note))
unfolding frequency_of
frequency-fits note = of_bits-fits binary32 (get_or patterns note 0)

-- no pitch is a NaN
pub frequency-no_nan : (note : ℕ) → T (not (is_nan (frequency_of note)))
frequency-no_nan note = go (ltb note 128) refl
  where
    go : (t : Bool) → ltb note 128 ≡ t → T (not (is_nan (frequency_of note)))
    go true e = above_no_nan (frequency_of note) (and_l (lt zero64 (frequency_of note)) (le (frequency_of note) (highest_pitch binary64)) (frequency_in note (ltb-true note 128 e)))
    go false e = rw (frequency-past note (ltb-false note 128 e)) zero-no_nan
