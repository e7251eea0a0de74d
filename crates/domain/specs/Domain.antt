-- The domain of the ported calls, each limit once. 01, "Domain of the ported calls": "Phase and dt are normalised:
-- phase 0 to 1, dt 0 to 4, duty 0 to 1. Block calls take a rate of 8,000 to 192,000 (whole Hz), frequency 0 to 20,000
-- Hz (LFO 0 to 100), depth 0 to 1, start phase 0 up to but not including 1,000 radians. Notes and velocities are 0 to
-- 127."; and of "the shelf's limits", which a given voice must meet too: "phase is at least 0 and below 1,000",
-- "frequency above 0 and at most 12,544".
--
-- Ranges are comparisons of floats: a NaN is outside, and -0 counts as 0, so that -0 is a frequency of a block call and
-- none of a voice. The number of a refusal is defined with each call. Definitions only.
use Rattle.std.specs.Prelude.{Bool, ◌&&◌, ℕ, leb, Float}
use Rattle.std.specs.Float.{Format, binary32, binary64}
use Rattle.std.specs.Float.Ieee.{of_bits, lt, le}
use Rattle.floats.specs.Range.{zero_of, within}
use Rattle.floats.specs.Double.{zero64, one, four}

-- ---- normalised numbers
abbrev pub is_phase : Float → Float → Bool
is_phase t dt = within zero64 one t && within zero64 four dt

abbrev pub is_duty : Float → Bool
is_duty duty = within zero64 one duty

-- ---- block calls
-- a rate in whole Hz
unfoldable pub is_rate : ℕ → Bool
is_rate rate = leb 8000 rate && leb rate 192000

-- the highest frequency of an oscillator, 20,000 Hz, and of an LFO, 100 Hz
abbrev pub highest_tone : Float
highest_tone = of_bits binary64 0x40d3_8800_0000_0000

abbrev pub highest_lfo : Float
highest_lfo = of_bits binary64 0x4059_0000_0000_0000

abbrev pub is_frequency : Float → Float → Bool
is_frequency highest x = within zero64 highest x

abbrev pub is_depth : Float → Bool
is_depth depth = within zero64 one depth

-- 1,000 radians
abbrev pub thousand : Float
thousand = of_bits binary64 0x408f_4000_0000_0000

-- a phase in radians: at least 0 and below 1,000
abbrev pub is_radians : Float → Bool
is_radians x = le zero64 x && lt x thousand

-- ---- the voice
-- a note or a velocity
abbrev pub is_midi : ℕ → Bool
is_midi n = leb n 127

-- 12,544 Hz at either width: the frequency that sounds is an f32 in a voice and an f64 in a state
abbrev pub highest_pitch : Format → Float
highest_pitch binary32 = of_bits binary32 0x4644_0000
highest_pitch binary64 = of_bits binary64 0x40c8_8000_0000_0000

abbrev pub is_pitch : Format → Float → Bool
is_pitch f x = lt (zero_of f) x && le x (highest_pitch f)
