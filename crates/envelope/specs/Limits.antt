-- What the envelope accepts, and how its settings are clamped. 01, "Domain of the ported calls": "ADSR settings may be
-- anything but NaN"; "voice and envelope fields within the shelf's limits". Those limits: "stage_time 0 to 11, levels
-- and velocity 0 to 1". 01, "Steps": "times clamp to 0.001 to 10 s, sustain to 0 to 1".
-- A range is a comparison of floats: a NaN is outside, and -0 is within a range that starts at 0. Definitions only.
use Rattle.std.specs.Prelude.{Bool, not, ◌&&◌, cond, ℕ, pos, Float}
use Rattle.std.specs.Float.{binary64}
use Rattle.std.specs.Float.Ieee.{of_bits, of_int, is_nan, lt}
use Rattle.floats.specs.Range.{within}
use Rattle.floats.specs.Double.{◌⊘◌, zero64, one}
use Rattle.envelope.specs.declared.Adsr.{Adsr}
use Rattle.envelope.specs.declared.Envelope.{Envelope}

-- 0.001, 10 and 11, in seconds
abbrev pub milli : Float
milli = of_bits binary64 0x3f50_624d_d2f1_a9fc

abbrev pub ten : Float
ten = of_bits binary64 0x4024_0000_0000_0000

abbrev pub eleven : Float
eleven = of_bits binary64 0x4026_0000_0000_0000

-- ---- what is accepted
-- no setting is a NaN
unfoldable pub is_adsr : Adsr → Bool
is_adsr adsr = not (is_nan adsr.attack) && not (is_nan adsr.decay) && not (is_nan adsr.sustain) && not (is_nan adsr.release)

-- both levels 0 to 1, the time 0 to 11 s
unfoldable pub is_envelope : Envelope → Bool
is_envelope e = within zero64 one e.level && within zero64 one e.release_level && within zero64 eleven e.stage_time

-- ---- what is made of the settings
-- `f64::clamp`: a number that is not below lo and not above hi is kept, -0 at a lo of 0 too
abbrev pub clamp_of : Float → Float → Float → Float
clamp_of lo hi x = cond (lt x lo) lo (cond (lt hi x) hi x)

-- times to 0.001 to 10 s, sustain to 0 to 1
unfoldable pub clamped_of : Adsr → Adsr
clamped_of adsr = record { attack = clamp_of milli ten adsr.attack; decay = clamp_of milli ten adsr.decay; sustain = clamp_of zero64 one adsr.sustain; release = clamp_of milli ten adsr.release }

-- the time of one sample, in seconds
unfoldable pub sample_time_of : ℕ → Float
sample_time_of rate = one ⊘ of_int binary64 (pos rate)
